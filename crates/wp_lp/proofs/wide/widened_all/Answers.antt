use Rattle.std.proofs.Common.{◌<◌, ◌^◌, ◌++◌, ◌∷◌, [], ℕ, arith}
use Rattle.std.proofs.lemmas.Grind.{common_steps}
use Rattle.std.proofs.lemmas.List.Elements.{All-push, All-same}
use Rattle.wp_lp.specs.Knowns.{IsScaled}
use Rattle.wp_lp.proofs.RoundedDown.{each_more}
use Rattle.wp_lp.proofs.Scaled.{scaled_feasible}
use Rattle.wp_lp.proofs.wide.widened_all.Goals as goal

pub loop-order-preserved : goal.loop-order-preserved
loop-order-preserved g c =
    let count = c.loop-order.invariant.count in
    let items = c.in_ok-push.ensures.items in
    record {
      pool = c.in_ok-dual.ensures.pool;
      count = grind (arith, common_steps);
      each = each_more (IsScaled c.args.given.now.wave.now c.args.given.now.pairs.now c.args.sixtieths.now.items) c.loop-order.duals.items c.push.new.self.items
          c.loop-order.order c.in_ok-dual.dual count items c.loop-order.invariant.each c.in_ok-dual.ensures.scaled;
      small = All-same (λ (d : ℕ). d < 2 ^ 34) c.push.new.self.items (c.loop-order.duals.items ++ c.in_ok-dual.dual ∷ []) items
          (All-push (λ (d : ℕ). d < 2 ^ 34) c.loop-order.duals.items c.in_ok-dual.dual c.loop-order.invariant.small c.in_ok-dual.ensures.small);
    }

pub returns-clause-sound : goal.returns-clause-sound
returns-clause-sound g c = record {
  feasible = scaled_feasible c.args.given.now.wave.now c.args.given.now.pairs.now c.args.sixtieths.now.items c.loop-order.duals.items
      c.args.given.now.as_many (λ order low. c.loop-order.invariant.each order
      (omega (arith, low, c.loop-order-test.false, c.loop-order.auto.order-end, c.orders-order-end.ensures.value)));
  count = omega (arith, c.loop-order.invariant.count, c.loop-order-test.false, c.loop-order.auto.order-end, c.orders-order-end.ensures.value);
  small = c.loop-order.invariant.small;
}
