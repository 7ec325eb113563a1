use Rattle.std.proofs.Common.{◌∙◌, sym, refl, ap, subst, ◌<◌, ◌≤◌, ◌^◌, ◌+◌, List, length, take, inl, inr, IfSome, slice_get, slice_index_or, arith}
use Rattle.std.proofs.lemmas.Bool.{cases_lt}
use Rattle.std.proofs.lemmas.List.Sums.{get_or-le-sum_by, sum_by_more, sum_by_more_le}
use Rattle.wp_model.proofs.Elements.{at_some}
use Rattle.wp_model.proofs.Rows.{IfSome-change_rows, length-change_rows}
use Rattle.wp_model.specs.Book.{hold_at, units_at}
use Rattle.wp_model.specs.Change.{change_rows, free_held_units}
use Rattle.wp_model.specs.declared.row.Hold.{Hold}
use Rattle.wp_model.specs.declared.row.Row.{Row}
use Rattle.wp_book.proofs.HoldSums.{freed_more, freed_none, hold_at-own}
use Rattle.wp_book.proofs.holds.give_back_holds.Goals as goal

abbrev none : Hold
none = record { order = 0; row = 0; quantity = 0 }

pub loop-hold-init : goal.loop-hold-init
loop-hold-init c = sym (freed_none _ c.args.rows.now (λ k. refl))

pub give_back_hold-requires-clause-within : goal.give_back_hold-requires-clause-within
give_back_hold-requires-clause-within c = λ some.
    let hold = slice_index_or c.args.holds.now c.loop-hold.hold-index none in
    elim (cases_lt hold.row (length c.loop-hold.rows)) [
      | inl within ↦ within
      | inr past ↦ absurd (omega (
        arith,
        get_or-le-sum_by (hold_at hold.row) c.args.holds.now c.loop-hold.hold-index none c.loop-hold-test.true,
        hold_at-own hold,
        c.requires.within hold.row (omega (arith, ap length c.loop-hold.invariant ∙ length-change_rows _ _)),
      ))
    ]

pub give_back_hold-requires-clause-held : goal.give_back_hold-requires-clause-held
give_back_hold-requires-clause-held c =
    let i = c.loop-hold.hold-index in
    let hold = slice_index_or c.args.holds.now i none in
    let part = sum_by_more_le (hold_at hold.row) c.args.holds.now i none c.loop-hold-test.true in
    subst (λ (rows : List Row). IfSome (slice_get rows hold.row) (λ r. (hold.quantity ≤ r.held) × (r.free + r.held < 2 ^ 32))) (sym c.loop-hold.invariant)
    (IfSome-change_rows _ c.args.rows.now hold.row _ (λ r there.
    let enough = at_some _ _ r there (c.requires.held hold.row) in
    (omega (arith, part, hold_at-own hold, enough.0), omega (arith, part, enough.0, enough.1))))

pub loop-hold-preserved : goal.loop-hold-preserved
loop-hold-preserved c =
    let i = c.loop-hold.hold-index in
    let hold = slice_index_or c.args.holds.now i none in
    c.give_back_hold.ensures ∙ ap (λ rows. change_rows (λ row. free_held_units (hold_at row hold)) 0 rows) c.loop-hold.invariant
    ∙ freed_more (λ row. units_at (take i c.args.holds.now) row) (λ row. hold_at row hold) _ c.args.rows.now
    (λ row. sum_by_more (hold_at row) c.args.holds.now i none c.loop-hold-test.true)
