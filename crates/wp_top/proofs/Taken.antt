-- A refill takes from rows of the stock.
use Rattle.std.proofs.Common.{◌≡◌, sym, subst, ℕ, zero, suc, ◌+◌, ◌-◌, ◌<◌, ◌==◌, Bool, true, false, List, [], ◌∷◌, length, Option, Some, None, if◌then◌else◌}
use Rattle.std.proofs.Common.{arith}
use Rattle.std.specs.List.{All, flat_map}
use Rattle.std.specs.Option.{option_map_or}
use Rattle.std.proofs.lemmas.List.Concat.{flat_map-cons}
use Rattle.std.proofs.lemmas.List.Elements.{All-append, All-cons, All-nil}
use Rattle.wp_model.specs.Book.{held_list, order_held_list}
use Rattle.wp_model.specs.Opening.{Opening}
use Rattle.wp_model.specs.State.{State, Wave}
use Rattle.wp_model.specs.Step.{Stepped, step, wave_from}
use Rattle.wp_model.specs.declared.command.Command.{Command}
use Rattle.wp_model.specs.declared.command.Command.TheVariants as command
use Rattle.wp_model.specs.declared.entry.Entry.{Entry}
use Rattle.wp_model.specs.declared.reply.Reply.{Reply}
use Rattle.wp_model.specs.declared.reply.Reply.TheVariants as reply
use Rattle.wp_model.specs.declared.row.Hold.{Hold}
use Rattle.wp_machine.specs.Outcome.{missing_outcome, outcome_of, release_outcome}
use Rattle.wp_machine.specs.declared.outcome.Outcome.{Outcome}
use Rattle.wp_machine.specs.declared.outcome.Outcome.TheVariants as outcome
use Rattle.wp_machine.specs.declared.outcome.Refill.{Refill}
use Rattle.wp_top.proofs.RowsKept.{AreRowsOf, step_keeps_rows}
use Rattle.wp_machine.specs.Outcome.{outcomes_from, refill_in}

-- each hold of a refill is at one of so many rows
abbrev pub IsWithin : ℕ → Refill → Type 0
IsWithin rows refill = All (λ hold. hold.row < rows) refill.holds

one_hold : (rows row order units : ℕ) (b : Bool) → row < rows
    → All (λ (h : Hold). h.row < rows) (if b then [] else record { order = order; row = row; quantity = units } ∷ [])
one_hold rows row order units true within = All-nil (λ (h : Hold). h.row < rows)
one_hold rows row order units false within = All-cons (λ (h : Hold). h.row < rows) _ [] within (All-nil (λ (h : Hold). h.row < rows))

order_within : (order rows most : ℕ) (units : ℕ → ℕ) → rows < suc most → All (λ (h : Hold). h.row < most) (order_held_list order rows units)
order_within order zero most units few = All-nil (λ (h : Hold). h.row < most)
order_within order (suc row) most units few =
    All-append (λ (h : Hold). h.row < most) (order_held_list order row units) _ (order_within order row most units (omega arith))
    (one_hold most row order (units row) (units row == 0) (omega arith))

list_within : (orders rows : ℕ) (held : ℕ → ℕ → ℕ) → All (λ (h : Hold). h.row < rows) (held_list orders rows held)
list_within zero rows held = All-nil (λ (h : Hold). h.row < rows)
list_within (suc order) rows held =
    All-append (λ (h : Hold). h.row < rows) (held_list order rows held) _ (list_within order rows held)
    (order_within order rows rows (held order) (omega arith))

abbrev Within : ℕ → Outcome → Type 0
Within rows told = All (IsWithin rows) (refill_in told)

none_within : (rows : ℕ) → All (IsWithin rows) []
none_within rows = All-nil (IsWithin rows)

by_found : (n number rows : ℕ) (before after : State) (name order : List ℕ) (found : Option (ℕ × Wave)) → length after.rows ≡ n
    → Within n (option_map_or (λ (found : ℕ × Wave). outcome.Refilled
    (record {
      number = number;
      wave = name;
      order = order;
      holds = held_list (length found.1.orders) (length after.rows) (λ o r. after.held found.0 o r - before.held found.0 o r);
    })) found outcome.Plain)
by_found n number rows before after name order None same = none_within n
by_found n number rows before after name order (Some found) same =
    All-cons (IsWithin n) _ []
    (subst (λ m. All (λ (h : Hold). h.row < m) (held_list (length found.1.orders) (length after.rows)
    (λ o r. after.held found.0 o r - before.held found.0 o r))) same
    (list_within (length found.1.orders) (length after.rows) (λ o r. after.held found.0 o r - before.held found.0 o r)))
    (none_within n)

no_refill : (n number : ℕ) (after : State) (name : List ℕ) (found : Option (ℕ × Wave))
    → Within n (option_map_or (λ (found : ℕ × Wave). outcome.Released
    (record {
      number = number;
      wave = name;
      orders = found.1.orders;
      holds = held_list (length found.1.orders) (length after.rows) (after.held found.0);
    })) found outcome.Plain)
no_refill n number after name None = none_within n
no_refill n number after name (Some found) = none_within n

at_release : (n number : ℕ) (after : State) (name : List ℕ) (answer : Reply) → Within n (release_outcome number after name answer)
at_release n number after name reply.Released = no_refill n number after name (wave_from 0 after.waves name)
at_release n number after name other = none_within n

at_missing : (n number : ℕ) (before after : State) (name order : List ℕ) (answer : Reply) → length after.rows ≡ n
    → Within n (missing_outcome number before after name order answer)
at_missing n number before after name order (reply.Refilled units) same = by_found n number 0 before after name order (wave_from 0 after.waves name) same
at_missing n number before after name order other same = none_within n

outcome_within : (n number : ℕ) (before : State) (command : Command) (stepped : Stepped) → length stepped.state.rows ≡ n
    → Within n (outcome_of number before command stepped)
outcome_within n number before (command.Release name) stepped same = at_release n number stepped.state name stepped.reply
outcome_within n number before (command.Missing name order location quantity) stepped same =
    at_missing n number before stepped.state name order stepped.reply same
outcome_within n number before (command.Submit name orders) stepped same = none_within n
outcome_within n number before (command.Allot name) stepped same = none_within n
outcome_within n number before (command.Cancel name) stepped same = none_within n
outcome_within n number before (command.Pick name order location quantity) stepped same = none_within n
outcome_within n number before (command.Receive location article quantity) stepped same = none_within n

-- the refills of entries
pub refills_within : (opening : Opening) (number : ℕ) (state : State) (entries : List Entry) → AreRowsOf opening.stock state.rows
    → All (IsWithin (length opening.stock.rows)) (flat_map refill_in (outcomes_from opening number state entries))
refills_within opening number state [] are = All-nil (IsWithin (length opening.stock.rows))
refills_within opening number state (entry ∷ entries) are =
    let n = length opening.stock.rows in
    let stepped = step opening state entry.command in
    let told = outcome_of number state entry.command stepped in
    let after = step_keeps_rows opening opening.stock state entry.command are in
    let later = outcomes_from opening (number + 1) stepped.state entries in
    subst (All (IsWithin n)) (sym (flat_map-cons refill_in told later))
    (All-append (IsWithin n) (refill_in told) (flat_map refill_in later) (outcome_within n number state entry.command stepped after.count)
    (refills_within opening (number + 1) stepped.state entries after))
