use Rattle.std.proofs.Common.{take}
use Rattle.std.specs.List.{flat_map}
use Rattle.wp_planner.specs.Crews.{AreListed, sent_batches}
use Rattle.wp_planner.proofs.crew.batches_of.Given as goal

-- the batches of the waves so far are listed
abbrev pub invariant-loop-one : goal.invariant-loop-one
invariant-loop-one l = AreListed (flat_map sent_batches (take l.one-index l.sent)) l.batches
