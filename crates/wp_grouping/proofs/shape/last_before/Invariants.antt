use Rattle.std.proofs.Common.{◌≤◌}
use Rattle.wp_grouping.specs.Shape.{HasNoneBetween}
use Rattle.wp_waves.specs.Filling.{waves_kept}
use Rattle.wp_grouping.proofs.shape.last_before.Given as goal

-- no wave of the group stands from this place on
abbrev pub invariant-loop-place : goal.invariant-loop-place
invariant-loop-place l = record {
  none : HasNoneBetween (waves_kept l.waves) l.place l.end l.wave;
  within : l.place ≤ l.end;
}

abbrev pub decreases-loop-place : goal.decreases-loop-place
decreases-loop-place l = l.place
