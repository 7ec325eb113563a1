use Rattle.std.proofs.Common.{◌<◌, ℕ, arith, length}
use Rattle.std.proofs.lemmas.List.Sums.{sum_by_more}
use Rattle.std.proofs.lemmas.Option.{get_or_from_slice_get}
use Rattle.wp_cuts.proofs.CountedBatches.{one_more_times}
use Rattle.wp_cuts.proofs.counts.whole_load.Goals as goal

pub loop-order-preserved : goal.loop-order-preserved
loop-order-preserved c =
    let cart = c.args.cart.now in
    let order = c.loop-order.order in
    let low : order < length cart.loads = omega (arith, c.loop-order-test.true, c.orders-order-end.ensures.value) in
    let at = get_or_from_slice_get cart.loads order c.load.result 0 c.load.ensures in
    let more = sum_by_more (λ (x : ℕ). x) cart.loads order 0 low in
    let light = c.orders-order-end.ensures.valid.light order 0 low in
    record {
      so_far = omega (arith, c.loop-order.invariant.so_far, c.from-total.ensures, at, more);
      small = omega (arith, c.loop-order.invariant.small, c.from-total.ensures, at, light, one_more_times order cart.units);
    }
