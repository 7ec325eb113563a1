use Rattle.std.proofs.Common.{◌<◌, ℕ}
use Rattle.wp_pairs.specs.Permitted.{AreDecided}
use Rattle.wp_pairs.proofs.pairs.Pairs.undecided_with.Given as goal

abbrev pub invariant-loop-second : goal.invariant-loop-second
invariant-loop-second l = (right : ℕ) → l.first < right → right < l.second → AreDecided l.self.pairs l.first right
