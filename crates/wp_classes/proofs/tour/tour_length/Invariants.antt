use Rattle.std.proofs.Common.{◌+◌, ◌-◌}
use Rattle.wp_classes.specs.Choices.{block_of}
use Rattle.wp_classes.specs.Onward.{AreOnward}
use Rattle.wp_classes.proofs.tour.tour_length.Given as goal

abbrev pub invariant-loop-done : goal.invariant-loop-done
invariant-loop-done l = AreOnward (block_of l.layout l.picks.points) (l.layout.aisles - (l.layout.aisles + 1 - l.done)) (l.layout.aisles + 1 - l.done) l.onward
