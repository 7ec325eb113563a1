use Rattle.std.proofs.Common.{◌<◌, ℕ, arith, length, ⊎_elim}
use Rattle.wp_lengths.proofs.Unions.{all_from_contained, nothing_in}
use Rattle.wp_batch_tests.proofs.starts.known_part.Goals as goal
use Rattle.wp_batch_tests.proofs.starts.known_part.Goals.{then-has, else-has}

pub loop-order-init : goal.loop-order-init
loop-order-init c = λ order has. absurd (nothing_in _ order c.empty-known.ensures has)

pub loop-order-preserved : goal.loop-order-preserved
loop-order-preserved c = elim c.if-has.branch [
  | then-has w ↦ rw w.known-is (λ order has. ⊎_elim (λ old. c.loop-order.invariant order old) (λ same. omega (arith, same))
      ((w.with-known.ensures.orders order).0 has))
  | else-has w ↦ rw w.known-is c.loop-order.invariant
]

pub returns : goal.returns
returns c = all_from_contained (λ (order : ℕ). order < length c.args.wave.now.orders) c.loop-order.known c.loop-order.invariant
