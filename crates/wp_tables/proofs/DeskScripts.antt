-- The scripts of desks as they are kept.
use Rattle.std.proofs.Common.{◌≡◌, ◌∙◌, refl, sym, ap, ℕ, ◌-◌, ◌<◌, ◌≤◌, List, length, map, Some, arith}
use Rattle.std.proofs.lemmas.List.{length-map}
use Rattle.std.proofs.lemmas.Option.{slice_get-map, slice_get_read}
use Rattle.std.specs.List.{All}
use Rattle.std.specs.Prelude.{◌+◌, IsTrue, IfSome, get_or, option_map, slice_get}
use Rattle.wp_model.proofs.Elements.{if_some_then}
use Rattle.wp_model.proofs.Scripts.{script_at}
use Rattle.wp_model.specs.History.{Script, script_of}
use Rattle.wp_model.specs.Plain.{is_plain}
use Rattle.wp_model.specs.Tables.{AreReadScripts}
use Rattle.wp_tables.proofs.Parts.{all_at}
use Rattle.wp_tables.specs.Scripts.{script_in}
use Rattle.wp_tables.specs.declared.scripts.DeskScript.{DeskScript}

-- the script that is kept at a desk's place is what the scripts have that desk ask for
pub script_kept : (scripts : List DeskScript) (desk : ℕ) (script : DeskScript) → AreReadScripts (map script_in scripts) → 1 ≤ desk
    → desk ≤ length (map script_in scripts) → script ≡ get_or scripts (desk - 1) script
    → script.commands.items ≡ script_of (map script_in scripts) desk
script_kept scripts desk script read first last is =
    let below : desk - 1 < length scripts = omega (arith, first, last, length-map scripts script_in) in
    let there : slice_get (map script_in scripts) (desk - 1) ≡ Some (script_in script) =
    slice_get-map script_in scripts (desk - 1) ∙ ap (option_map script_in) (slice_get_read scripts (length scripts) (desk - 1) script refl below is) in
    let place : 1 + (desk - 1) ≡ desk = omega (arith, first) in
    let numbered : (k : ℕ) → IfSome (slice_get (map script_in scripts) k) (λ script. script.desk ≡ 1 + k) =
    λ k. if_some_then (slice_get (map script_in scripts) k) (λ s. s.desk ≡ k + 1) (λ s. s.desk ≡ 1 + k) (λ s e. e ∙ one_first k) (read.numbered k) in
    sym (ap (script_of (map script_in scripts)) (sym place) ∙ script_at 1 (map script_in scripts) (desk - 1) (script_in script) numbered there)
  where
    one_first : (k : ℕ) → k + 1 ≡ 1 + k
    one_first k = omega arith

-- each of its commands is plain
pub script_plain : (scripts : List DeskScript) (desk : ℕ) (script : DeskScript) → AreReadScripts (map script_in scripts) → 1 ≤ desk
    → desk ≤ length (map script_in scripts) → script ≡ get_or scripts (desk - 1) script
    → All (λ command. IsTrue (is_plain command)) script.commands.items
script_plain scripts desk script read first last is =
    all_at script_in (λ (s : Script). All (λ command. IsTrue (is_plain command)) s.commands) scripts (desk - 1) script read.plain
    (omega (arith, first, last, length-map scripts script_in)) is
