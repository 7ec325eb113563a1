use Rattle.std.proofs.Common.{◌≤◌, length}
use Rattle.wp_waves.specs.Filling.{HaveNoneFrom, waves_kept}
use Rattle.wp_waves.proofs.waves.last_of_group.Given as goal

-- no wave from this place on is of the group
abbrev pub invariant-loop-place : goal.invariant-loop-place
invariant-loop-place l = record {
  none : HaveNoneFrom l.group (waves_kept l.waves) l.place;
  within : l.place ≤ length l.waves;
}

abbrev pub decreases-loop-place : goal.decreases-loop-place
decreases-loop-place l = l.place
