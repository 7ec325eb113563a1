use Rattle.std.proofs.Common.{◌≡◌, length}
use Rattle.wp_batch_tests.proofs.classes.decided_pairs.Given as goal

abbrev pub invariant-loop-choice : goal.invariant-loop-choice
invariant-loop-choice l = record {
  orders : l.pairs.orders ≡ length l.wave.orders;
  capacity : l.pairs.capacity ≡ l.fn.capacity.most;
  cart : l.pairs.cart ≡ l.wave.cart;
}
