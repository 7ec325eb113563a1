use Rattle.std.proofs.Common.{◌≡◌, ◌≤◌, take}
use Rattle.wp_top.specs.Runs.{command_count}
use Rattle.wp_top.proofs.store.count_of.Given as goal

-- the commands of the desks so far
abbrev pub invariant-loop-desk : goal.invariant-loop-desk
invariant-loop-desk l = (l.commands ≡ command_count (take l.desk l.scripts)) × (l.commands ≤ 10000)
