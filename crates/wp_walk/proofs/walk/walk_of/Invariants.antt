use Rattle.wp_classes.specs.Choices.{route_of}
use Rattle.wp_walk.proofs.Walks.{IsUnderway}
use Rattle.wp_walk.proofs.walk.walk_of.Given as goal

abbrev pub invariant-loop-left : goal.invariant-loop-left
invariant-loop-left l = IsUnderway l.layout l.picks.points (route_of l.choice) l.left l.walked
