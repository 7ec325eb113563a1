use Rattle.std.proofs.Common.{◌≡◌, length}
use Rattle.wp_classes.specs.Choices.{block_of, route_of}
use Rattle.wp_classes.proofs.Progress.{Progress}
use Rattle.wp_classes.proofs.tour.tour_choice.Given as goal

abbrev pub invariant-loop-left : goal.invariant-loop-left
invariant-loop-left l = record {
  ways_whole : length l.ways ≡ 64;
  crosses_whole : length l.crosses ≡ 64;
  progress : Progress (block_of l.layout l.picks.points) l.layout.aisles l.left (route_of (record { ways = l.ways; crosses = l.crosses })) l.class;
}
