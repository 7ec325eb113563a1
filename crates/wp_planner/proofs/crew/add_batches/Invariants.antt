use Rattle.std.proofs.Common.{List, ◌++◌, take}
use Rattle.wp_planner.specs.Crews.{AreListed, DayBatch, wave_batches}
use Rattle.wp_planner.proofs.crew.add_batches.Given as goal

-- the batches so far were added
abbrev pub invariant-loop-place : goal.invariant-loop-place
invariant-loop-place l = (before : List DayBatch) → AreListed before l.initial.batches
    → AreListed (before ++ wave_batches l.name l.plan.wave 1 (take l.place l.plan.planned.batching)) l.batches
