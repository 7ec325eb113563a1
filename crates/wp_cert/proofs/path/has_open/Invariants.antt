use Rattle.std.proofs.Common.{◌<◌, ℕ}
use Rattle.wp_pairs.specs.Permitted.{AreUndecided}
use Rattle.wp_cert.proofs.path.has_open.Given as goal

abbrev pub invariant-loop-first : goal.invariant-loop-first
invariant-loop-first l = (k second : ℕ) → k < l.first → AreUndecided l.pairs k second → ⊥
