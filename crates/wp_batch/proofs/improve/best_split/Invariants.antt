use Rattle.std.proofs.Common.{◌<◌, ◌≤◌, ◌∷◌, [], IfSome}
use Rattle.wp_lengths.specs.Batchings.{IsCost}
use Rattle.wp_batch.specs.Splits.{IsSplit}
use Rattle.wp_batch.specs.declared.split.Split.{Split}
use Rattle.wp_batch.proofs.improve.best_split.Given as goal

abbrev pub invariant-loop-choice : goal.invariant-loop-choice
invariant-loop-choice l = record {
  split : IfSome l.best (IsSplit l.instance.wave.now l.instance.capacity l.union);
  total : IfSome l.best (λ (split : Split). IsCost l.instance.wave.now (split.left ∷ split.right ∷ []) split.total);
  less : IfSome l.best (λ (split : Split). split.total < l.fn.most);
  least : l.least ≤ l.fn.most;
}
