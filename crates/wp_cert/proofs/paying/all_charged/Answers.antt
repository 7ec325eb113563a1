use Rattle.std.proofs.Common.{arith, ℕ}
use Rattle.std.proofs.lemmas.List.Sums.{sum_by_more}
use Rattle.wp_cert.proofs.paying.all_charged.Goals as goal

pub loop-order-init : goal.loop-order-init
loop-order-init c = record {
  so_far = omega (arith, c.counted-total.ensures.is);
  small = omega (arith, c.counted-total.ensures.small);
}

pub loop-order-preserved : goal.loop-order-preserved
loop-order-preserved c =
    let duals = c.args.duals.now in
    let more = sum_by_more (λ (x : ℕ). x) duals c.loop-order.order 0 (omega (arith, c.loop-order-test.true)) in record {
      so_far = omega (arith, c.loop-order.invariant.so_far, c.from-total.ensures, more);
      small = omega (arith, c.loop-order.invariant.small, c.from-total.ensures);
    }
