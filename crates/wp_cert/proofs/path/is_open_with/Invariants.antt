use Rattle.std.proofs.Common.{◌<◌, ℕ}
use Rattle.wp_pairs.specs.Permitted.{AreUndecided}
use Rattle.wp_cert.proofs.path.is_open_with.Given as goal

abbrev pub invariant-loop-second : goal.invariant-loop-second
invariant-loop-second l = (k : ℕ) → k < l.second → AreUndecided l.pairs l.fn.first k → ⊥
