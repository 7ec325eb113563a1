use Rattle.std.proofs.Common.{ℕ, ◌<◌, ◌≤◌}
use Rattle.wp_fast.specs.KeptWays.{AreWaysAt}
use Rattle.wp_fast.proofs.kept.all_ways.Given as goal

abbrev pub invariant-loop-aisle : goal.invariant-loop-aisle
invariant-loop-aisle l = record {
  before : (aisle : ℕ) → 1 ≤ aisle → aisle < l.aisle → AreWaysAt l.layout l.picks.points l.ways aisle;
  last : AreWaysAt l.layout l.picks.points l.ways l.last;
}
