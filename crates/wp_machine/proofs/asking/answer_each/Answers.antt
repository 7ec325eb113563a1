use Rattle.std.proofs.Common.{◌∙◌, refl, sym, ap, length, take, arith}
use Rattle.std.proofs.lemmas.List.{length-take}
use Rattle.std.proofs.lemmas.Option.{slice_get_read}
use Rattle.wp_model.specs.History.{History, answered}
use Rattle.wp_machine.proofs.Askings.{as_many_entries, asked_all-next}
use Rattle.wp_machine.proofs.asking.answer_each.Goals as goal

pub ask-requires-clause-few : goal.ask-requires-clause-few
ask-requires-clause-few c =
    let count = ap (λ (h : History). length h.entries) c.loop-asking.invariant in
    omega (
      arith,
      count,
      as_many_entries c.args.machine.now (take c.loop-asking.asking-index c.args.askings.now),
      length-take c.loop-asking.asking-index c.args.askings.now,
      c.requires.few,
      c.loop-asking-test.true,
    )

pub loop-asking-preserved : goal.loop-asking-preserved
loop-asking-preserved c =
    let at = slice_get_read c.args.askings.now (length c.args.askings.now) c.loop-asking.asking-index c.asking-item.result refl c.loop-asking-test.true
    c.asking-item.is in
    let next = asked_all-next c.args.machine.now c.args.askings.now c.loop-asking.asking-index c.asking-item.result at in
    c.in_ok-ask.ensures.history
    ∙ (ap (answered c.loop-asking.machine c.asking-item.result.desk) c.in_ok-copy.ensures
    ∙ (ap (λ h. answered h c.asking-item.result.desk c.asking-item.result.command) c.loop-asking.invariant ∙ sym next))
