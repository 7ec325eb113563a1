use Rattle.std.proofs.Common.{sym, true≢false, ◌∙◌, Contains, slice_index_or, take}
use Rattle.std.proofs.lemmas.List.{take_more}
use Rattle.wp_model.specs.declared.row.Hold.{Hold}
use Rattle.wp_sheets.proofs.PicksByRow.{none_more_held, one_more_held}
use Rattle.wp_sheets.proofs.picks.held_for.Goals as goal
use Rattle.wp_sheets.proofs.picks.held_for.Goals.{else-has, then-has+in_ok-push}

abbrev none : Hold
none = record { order = 0; row = 0; quantity = 0 }

pub loop-hold-preserved : goal.loop-hold-preserved
loop-hold-preserved c =
    let holds = c.args.holds.now in
    let i = c.loop-hold.hold-index in
    let so_far = take i holds in
    let h = slice_index_or holds i none in
    let batch = c.args.batch in
    let picks = c.loop-hold.picks.items in
    rw (take_more holds i none c.loop-hold-test.true) (elim c.if-has.branch [
      | then-has+in_ok-push w ↦
          rw (w.picks-is, w.in_ok-push.ensures.items) (one_more_held so_far batch picks h (c.has.ensures.exact.0 w.if-has.true) c.loop-hold.invariant)
      | else-has w ↦
          let absent : Contains batch h.order → ⊥ = λ has. true≢false (sym (c.has.ensures.exact.1 has) ∙ w.if-has.false) in
          rw w.picks-is (none_more_held so_far batch picks h absent c.loop-hold.invariant)
    ])
