use Rattle.std.proofs.Common.{◌≡◌, ◌<◌, List, arith, length, subst, ◌∙◌}
use Rattle.std.proofs.lemmas.List.Elements.{All-push}
use Rattle.wp_graph.specs.PickSets.{PickSet}
use Rattle.wp_cert.specs.Text.{PicksAt, is_order_of}
use Rattle.wp_cert.specs.declared.text.form.WrittenSlot.{WrittenSlot}
use Rattle.wp_cert.proofs.TextPicks.{one_more_order, order_picks, passes_at}
use Rattle.wp_cert.proofs.text.wave.all_picks.Goals as goal

pub loop-places-preserved : goal.loop-places-preserved
loop-places-preserved c =
    let kept = c.loop-places.invariant in
    let within = passes_at (is_order_of c.args.layout.now) c.args.orders.now c.loop-places.places-index c.places-item.result (omega arith) c.requires in
    let at = subst (λ (places : List WrittenSlot). PicksAt c.picks_of.result places) (c.as_slice.ensures ∙ c.places-item.is) c.picks_of.ensures.points in (
      rw c.in_ok-push.ensures.items (All-push (λ (picks : PickSet). picks.layout ≡ c.args.layout.now) _ _ kept.0 c.picks_of.ensures.layout),
      rw c.in_ok-push.ensures.items (All-push (λ (picks : PickSet). 0 < length picks.points) _ _ kept.1
          (order_picks c.args.layout.now _ c.picks_of.result within at)),
      rw c.in_ok-push.ensures.items (one_more_order _ _ c.places-item.result _ _ (omega arith) kept.2 at),
    )
