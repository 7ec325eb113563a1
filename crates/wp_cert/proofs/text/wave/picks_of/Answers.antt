use Rattle.std.proofs.Common.{List, arith, subst, ◌∙◌}
use Rattle.std.proofs.lemmas.List.{take_all}
use Rattle.wp_cert.specs.Text.{PicksAt}
use Rattle.wp_cert.specs.declared.text.form.WrittenSlot.{WrittenSlot}
use Rattle.wp_cert.proofs.TextPicks.{one_more_slot}
use Rattle.wp_cert.proofs.text.wave.picks_of.Goals as goal

pub loop-place-preserved : goal.loop-place-preserved
loop-place-preserved c =
    let kept = c.loop-place.invariant in (
      c.add.ensures.layout ∙ kept.0,
      one_more_slot c.args.places.now c.loop-place.place-index _ c.point_of.result c.loop-place.picks c.add.new.self (omega arith)
          c.point_of.ensures.value kept.1 c.add.ensures.points,
    )

pub returns-clause-points : goal.returns-clause-points
returns-clause-points c =
    subst (λ (places : List WrittenSlot). PicksAt c.loop-place.picks places) (take_all c.loop-place.place-index c.args.places.now (omega arith))
    c.loop-place.invariant.1
