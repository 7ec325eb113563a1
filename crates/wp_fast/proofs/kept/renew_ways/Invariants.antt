use Rattle.std.proofs.Common.{ℕ, ◌<◌, ◌≤◌}
use Rattle.wp_fast.specs.KeptWays.{AreWaysAt, AreWaysElsewhere}
use Rattle.wp_fast.proofs.kept.renew_ways.Given as goal

abbrev pub invariant-loop-aisle : goal.invariant-loop-aisle
invariant-loop-aisle l = record {
  renewed : (aisle : ℕ) → 1 ≤ aisle → aisle < l.aisle → AreWaysAt l.layout l.picks.points l.ways aisle;
  elsewhere : AreWaysElsewhere l.layout l.picks.points l.more.points l.ways;
}
