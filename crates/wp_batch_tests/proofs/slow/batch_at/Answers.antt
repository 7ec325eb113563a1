use Rattle.std.proofs.Common.{◌<◌, ℕ, arith, length, ⊎_elim}
use Rattle.wp_lengths.proofs.Unions.{all_from_contained, nothing_in}
use Rattle.wp_batch_tests.proofs.slow.batch_at.Goals as goal
use Rattle.wp_batch_tests.proofs.slow.batch_at.Goals.{then-bits-min-eq1, else-bits-min-eq1}

pub loop-order-init : goal.loop-order-init
loop-order-init c = λ order has. absurd (nothing_in _ order c.empty-batch.ensures has)

pub loop-order-preserved : goal.loop-order-preserved
loop-order-preserved c = elim c.if-bits-min-eq1.branch [
  | then-bits-min-eq1 w ↦ rw w.batch-is (λ order has. ⊎_elim (λ old. c.loop-order.invariant order old)
      (λ same. omega (arith, same, c.loop-order-test.true, c.orders-order-end.ensures.value)) ((w.with-batch.ensures.orders order).0 has))
  | else-bits-min-eq1 w ↦ rw w.batch-is c.loop-order.invariant
]

pub returns : goal.returns
returns c = all_from_contained (λ (order : ℕ). order < length c.args.wave.now.orders) c.loop-order.batch c.loop-order.invariant
