use Rattle.wp_master.specs.Spots.{IsNowhere}
use Rattle.wp_master.proofs.table.basic_place.Given as goal

abbrev pub invariant-loop-place : goal.invariant-loop-place
invariant-loop-place l = IsNowhere l.spots l.row l.place
