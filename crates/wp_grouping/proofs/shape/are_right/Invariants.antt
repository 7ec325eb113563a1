use Rattle.wp_grouping.specs.Shape.{AreRightBefore}
use Rattle.wp_waves.specs.Filling.{waves_kept}
use Rattle.wp_grouping.proofs.shape.are_right.Given as goal

-- the waves so far are right
abbrev pub invariant-loop-place : goal.invariant-loop-place
invariant-loop-place l = AreRightBefore l.most (waves_kept l.waves) l.place
