use Rattle.std.proofs.Common.{◌<◌, ℕ, List}
use Rattle.wp_lengths.specs.Duals.{IsTightFor}
use Rattle.wp_batch_tests.proofs.classes.are_classes_tight.Given as goal

abbrev pub invariant-loop-order : goal.invariant-loop-order
invariant-loop-order l = (lower : ℕ) → lower < l.order → (batch : List ℕ) × IsTightFor l.given.wave.now l.given.pairs.now l.given.duals.now lower batch
