use Rattle.std.proofs.Common.{◌≡◌, length}
use Rattle.wp_master.specs.Spots.{AreStartSpots}
use Rattle.wp_master.proofs.start.start_spots.Given as goal

abbrev pub invariant-loop-place : goal.invariant-loop-place
invariant-loop-place l = record { count : length l.spots.items ≡ l.place; each : AreStartSpots l.pool l.spots.items }
