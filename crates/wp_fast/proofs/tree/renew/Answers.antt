use Rattle.std.proofs.Common.{arith}
use Rattle.wp_fast.proofs.TreeSteps.{composed_still, past_still}
use Rattle.wp_fast.proofs.tree.renew.Goals as goal

pub compose_above-requires-clause-composed : goal.compose_above-requires-clause-composed
compose_above-requires-clause-composed c = λ node up left right.
    composed_still c.args.tree.now c.put_aisles.new.tree node (c.put_aisles.ensures.unmarked _ left) (c.put_aisles.ensures.unmarked _ right)
    (c.put_aisles.ensures.inner node (omega (arith, up))) (c.requires.but.composed node up)

pub returns : goal.returns
returns c = record {
  composed = c.compose_above.ensures.composed;
  small = c.compose_above.ensures.small;
  aisles = λ aisle up. past_still c.args.layout.now c.args.picks.now.points c.put_aisles.new.tree c.compose_above.new.tree aisle
      (c.compose_above.ensures.aisles _ (omega (arith, up))) (c.put_aisles.ensures.past aisle up);
}
