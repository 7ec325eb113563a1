use Rattle.std.proofs.Common.{◌≤◌, ◌-◌}
use Rattle.wp_master.specs.Runs.{IsReached}
use Rattle.wp_master.proofs.run.Run.risen.Given as goal

abbrev pub invariant-loop-place : goal.invariant-loop-place
invariant-loop-place l = record { reached : IsReached l.pool l.made l.run.table l.run.basis.items; few : l.made ≤ l.turns }

abbrev pub decreases-loop-place : goal.decreases-loop-place
decreases-loop-place l = l.turns - l.made
