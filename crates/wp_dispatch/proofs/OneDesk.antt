-- Commands of one desk alone are dealt as its script.
use Rattle.std.proofs.Common.{◌≡◌, ◌∙◌, refl, ap, ap₂, ℕ, ◌≤◌, ◌==◌, Bool, true, false, List, [], ◌∷◌, map, arith, if◌then◌else◌}
use Rattle.std.specs.List.{filter, range_with_len}
use Rattle.wp_dispatch.specs.DeskText.{only_last, script_where}
use Rattle.wp_dispatch.proofs.WavesRead.{all_asked}
use Rattle.wp_model.specs.History.{Script}
use Rattle.wp_model.specs.declared.command.Command.{Command}
use Rattle.wp_tables.specs.DeskFile.{desks_in, is_of, script_from, scripts_of}

-- no desk above it asks for anything
none_above : (desk : ℕ) (commands : List Command) → 1 ≤ desk → desks_in (all_asked desk commands) ≤ desk
none_above desk [] some = some
none_above desk (c ∷ commands) some = omega (arith, none_above desk commands some)

-- it asks for all, and each other desk for nothing
asks_for : (desk number : ℕ) (commands : List Command) (b : Bool) → (desk == number) ≡ b
    → map (λ asked. asked.command) (filter (is_of number) (all_asked desk commands)) ≡ (if b then commands else [])
asks_for desk number [] true e = refl
asks_for desk number [] false e = refl
asks_for desk number (c ∷ commands) true e = rw e (ap (λ (rest : List Command). c ∷ rest) (asks_for desk number commands true e))
asks_for desk number (c ∷ commands) false e = rw e (asks_for desk number commands false e)

script_is : (desk number : ℕ) (commands : List Command) → script_from (all_asked desk commands) number ≡ script_where desk commands number
script_is desk number commands =
    ap (λ (cs : List Command). let s : Script = record { desk = number; commands = cs } in s) (asks_for desk number commands (desk == number) refl)

map_same : {A B : Type 0} (f g : A → B) (xs : List A) → ((x : A) → f x ≡ g x) → map f xs ≡ map g xs
map_same f g [] same = refl
map_same f g (x ∷ xs) same = ap₂ (λ y ys. y ∷ ys) (same x) (map_same f g xs same)

-- so the last desk has the commands, where there is one
pub dealt : (desk : ℕ) (c : Command) (commands : List Command) → 1 ≤ desk
    → scripts_of (all_asked desk (c ∷ commands)) ≡ only_last desk (c ∷ commands)
dealt desk c commands some =
    let last : desks_in (all_asked desk (c ∷ commands)) ≡ desk = omega (arith, none_above desk commands some) in
    map_same (script_from (all_asked desk (c ∷ commands))) (script_where desk (c ∷ commands))
    (range_with_len 1 (desks_in (all_asked desk (c ∷ commands)))) (λ number. script_is desk number (c ∷ commands))
    ∙ ap (λ n. map (script_where desk (c ∷ commands)) (range_with_len 1 n)) last
