use Rattle.std.proofs.Common.{◌<◌, ℕ}
use Rattle.wp_pairs.specs.Permitted.{AreDecided}
use Rattle.wp_pairs.proofs.pairs.Pairs.undecided.Given as goal

abbrev pub invariant-loop-first : goal.invariant-loop-first
invariant-loop-first l = (left right : ℕ) → left < l.first → left < right → right < l.self.orders → AreDecided l.self.pairs left right
