use Rattle.std.proofs.Common.{◌<◌, ℕ, arith, ⊎_elim}
use Rattle.wp_lengths.proofs.Unions.{all_from_contained, nothing_in}
use Rattle.wp_samples.proofs.batches.batch_below.Goals as goal

pub loop-order-init : goal.loop-order-init
loop-order-init c = λ order has. absurd (nothing_in _ order c.empty-batch.ensures has)

pub loop-order-preserved : goal.loop-order-preserved
loop-order-preserved c = λ order has. ⊎_elim (λ old. c.loop-order.invariant order old)
    (λ same. omega (arith, same)) ((c.with-batch.ensures.orders order).0 has)

pub returns : goal.returns
returns c = all_from_contained (λ (order : ℕ). order < c.args.below) c.loop-order.batch c.loop-order.invariant
