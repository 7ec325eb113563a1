-- The desks' commands as they are kept, and their scripts.
use Rattle.std.proofs.Common.{◌≡◌, ◌∙◌, refl, sym, ap, subst, ℕ, zero, suc, ◌+◌, ◌≤◌, max, Bool, eqb, leb, cond, List, [], ◌∷◌, ◌++◌, length, map, get_or}
use Rattle.std.proofs.Common.{slice_get, IfSome, arith}
use Rattle.std.specs.Prelude.{IsTrue}
use Rattle.std.specs.List.{All, count_by, filter, range_with_len, sum_by}
use Rattle.std.proofs.Math.Nat.{max-le}
use Rattle.std.proofs.lemmas.Bool.{and_parts, leb-true}
use Rattle.std.proofs.lemmas.Bool.Decides.{nat_tests}
use Rattle.std.proofs.lemmas.List.{length-map, length_push}
use Rattle.std.proofs.lemmas.List.Elements.{All-cons, All-filter, All-head, All-map, All-push, All-tail, All-weaker}
use Rattle.std.proofs.lemmas.List.FromFn.{get_or-map-range_with_len, length-map-range_with_len, sum_by-map-range_with_len_more}
use Rattle.std.proofs.lemmas.List.Sums.{count_by-le-length, length-filter, sum_by-cons, sum_by_push}
use Rattle.std.proofs.lemmas.Option.{get_or_from_slice_get, slice_get_within}
use Rattle.wp_model.proofs.Elements.{if_some}
use Rattle.wp_model.specs.History.{Script}
use Rattle.wp_model.specs.Limits.{greatest_desk}
use Rattle.wp_model.specs.Plain.{has_names, is_plain}
use Rattle.wp_model.specs.Tables.{AreReadScripts}
use Rattle.wp_model.specs.declared.command.Command.{Command}
use Rattle.wp_tables.specs.DeskFile.{desks_in, is_desk, is_of, is_submission, script_from, scripts_of}
use Rattle.wp_tables.specs.Scripts.{AreKeptCommands, IsReadCommand, MayFollow}
use Rattle.wp_tables.specs.declared.scripts.DeskCommand.{DeskCommand}

-- a desk's number is 1 to the greatest
desk_bounds : (desk : ℕ) → IsTrue (is_desk desk) → (1 ≤ desk) × (desk ≤ greatest_desk)
desk_bounds desk is =
    let parts = and_parts _ _ is in
    (leb-true 1 desk parts.0, leb-true desk greatest_desk parts.1)

-- one more command may be of a desk of a greater number
desks_push : (commands : List DeskCommand) (asked : DeskCommand) → 1 ≤ asked.desk → desks_in (commands ++ asked ∷ []) ≡ max (desks_in commands) asked.desk
desks_push [] asked first = omega arith
desks_push (c ∷ commands) asked first = omega (arith, desks_push commands asked first)

-- there is one desk at least
some_desk : (commands : List DeskCommand) → 1 ≤ desks_in commands
some_desk [] = omega arith
some_desk (asked ∷ commands) = omega (arith, some_desk commands)

-- and not too many
few_desks : (commands : List DeskCommand) → All IsReadCommand commands → desks_in commands ≤ greatest_desk
few_desks [] each = omega arith
few_desks (asked ∷ commands) each =
    let first = desk_bounds asked.desk (All-head IsReadCommand asked commands each).of_desk in
    max-le first.1 (few_desks commands (All-tail IsReadCommand asked commands each))

-- each desk that asks for a command is one of them
abbrev pub IsWithin : ℕ → DeskCommand → Type 0
IsWithin desks asked = (1 ≤ asked.desk) × (asked.desk ≤ desks)

pub desks_within : (commands : List DeskCommand) → All IsReadCommand commands → All (IsWithin (desks_in commands)) commands
desks_within [] each = λ k d below. absurd (omega arith)
desks_within (asked ∷ commands) each =
    let first = desk_bounds asked.desk (All-head IsReadCommand asked commands each).of_desk in
    All-cons (IsWithin (desks_in (asked ∷ commands))) asked commands (first.0, omega arith)
    (All-weaker (IsWithin (desks_in commands)) (IsWithin (desks_in (asked ∷ commands))) (λ c within. (within.0, omega (arith, within.1))) commands
    (desks_within commands (All-tail IsReadCommand asked commands each)))

-- commands are kept with one more
pub kept_more : (commands : List DeskCommand) (submitted desks more : ℕ) (asked : DeskCommand) → AreKeptCommands commands submitted desks
    → MayFollow commands asked → more ≡ cond (is_submission asked.command) 1 0
    → AreKeptCommands (commands ++ asked ∷ []) (submitted + more) (max desks asked.desk)
kept_more commands submitted desks more asked kept may is = record {
  each = All-push IsReadCommand commands asked kept.each may.read;
  most = omega (arith, length_push commands asked, may.room);
  counted = omega (arith, is, kept.counted, sum_by_push (λ (a : DeskCommand). cond (is_submission a.command) 1 0) commands asked);
  last = ap (λ n. max n asked.desk) kept.last ∙ sym (desks_push commands asked (desk_bounds asked.desk may.read.of_desk).0);
}

-- a command is of a desk whose number is at most this
abbrev is_up_to : ℕ → DeskCommand → Bool
is_up_to n asked = leb asked.desk n

one_desk_more : (n desk : ℕ) → cond (leb desk n) 1 0 + cond (eqb desk (1 + n)) 1 0 ≤ cond (leb desk (n + 1)) 1 0
one_desk_more n desk = grind (arith, nat_tests)

counted : (p : DeskCommand → Bool) (asked : DeskCommand) (commands : List DeskCommand)
    → count_by p (asked ∷ commands) ≡ cond (p asked) 1 0 + count_by p commands
counted p = sum_by-cons (λ asked. cond (p asked) 1 0)

one_more : (commands : List DeskCommand) (n : ℕ) → count_by (is_up_to n) commands + count_by (is_of (1 + n)) commands ≤ count_by (is_up_to (n + 1)) commands
one_more [] n = omega arith
one_more (asked ∷ commands) n =
    rw (counted (is_up_to n) asked commands, counted (is_of (1 + n)) asked commands, counted (is_up_to (n + 1)) asked commands)
    (omega (arith, one_more commands n, one_desk_more n asked.desk))

-- how many commands a script has
abbrev size : Script → ℕ
size script = length script.commands

size_is : (commands : List DeskCommand) (desk : ℕ) → size (script_from commands desk) ≡ count_by (is_of desk) commands
size_is commands desk = length-map (filter (is_of desk) commands) (λ asked. asked.command) ∙ length-filter (is_of desk) commands

-- the scripts of the desks up to a number have no more commands together than are of these desks
sizes_to : (commands : List DeskCommand) (n : ℕ) → sum_by size (map (script_from commands) (range_with_len 1 n)) ≤ count_by (is_up_to n) commands
sizes_to commands zero = omega arith
sizes_to commands (suc n) =
    let next : suc n ≡ n + 1 = omega arith in
    let sizes = sum_by-map-range_with_len_more size (script_from commands) 1 n (1 + n) refl in
    subst (λ m. sum_by size (map (script_from commands) (range_with_len 1 m)) ≤ count_by (is_up_to m) commands) (sym next)
    (omega (arith, sizes, size_is commands (1 + n), sizes_to commands n, one_more commands n))

-- the script at a place is that of the next number
numbered : (commands : List DeskCommand) (n i : ℕ)
    → IfSome (slice_get (map (script_from commands) (range_with_len 1 n)) i) (λ script. script.desk ≡ i + 1)
numbered commands n i =
    let scripts = map (script_from commands) (range_with_len 1 n) in
    if_some (slice_get scripts i) (λ script. script.desk ≡ i + 1)
    (λ script is.
    let within = slice_get_within scripts i script is in
    let at = get_or-map-range_with_len (script_from commands) 1 n i (1 + i) script
    (omega (arith, within, length-map-range_with_len (script_from commands) 1 n)) refl in
    omega (arith, ap (λ (s : Script). s.desk) (sym (get_or_from_slice_get scripts i script script is) ∙ at)))

-- what holds of each command holds of each command of each script
each_script : (P : Command → Type 0) (commands : List DeskCommand) (desks : List ℕ) → All (λ asked. P asked.command) commands
    → All (λ script. All P script.commands) (map (script_from commands) desks)
each_script P commands desks each =
    All-map (λ script. All P script.commands) (script_from commands) desks
    (λ k d below. All-map P (λ asked. asked.command) (filter (is_of (get_or desks k d)) commands)
    (All-filter (is_of (get_or desks k d)) (λ asked. P asked.command) commands each))

-- the scripts of commands that are kept are as they are read
pub scripts_read : (commands : List DeskCommand) (submitted desks : ℕ) → AreKeptCommands commands submitted desks → AreReadScripts (scripts_of commands)
scripts_read commands submitted desks kept = record {
  some = omega (arith, some_desk commands, length-map-range_with_len (script_from commands) 1 (desks_in commands));
  few = omega (arith, few_desks commands kept.each, length-map-range_with_len (script_from commands) 1 (desks_in commands));
  numbered = numbered commands (desks_in commands);
  most = omega (arith, kept.most, sizes_to commands (desks_in commands), count_by-le-length (is_up_to (desks_in commands)) commands);
  plain = each_script (λ c. IsTrue (is_plain c)) commands (range_with_len 1 (desks_in commands))
      (All-weaker IsReadCommand (λ asked. IsTrue (is_plain asked.command)) (λ asked read. read.is_plain) commands kept.each);
  named = each_script (λ c. IsTrue (has_names c)) commands (range_with_len 1 (desks_in commands))
      (All-weaker IsReadCommand (λ asked. IsTrue (has_names asked.command)) (λ asked read. read.named) commands kept.each);
}
