use Rattle.std.proofs.Common.{◌≤◌, ◌-◌, ◌+◌, []}
use Rattle.wp_tables.specs.Scripts.{AreDealt}
use Rattle.wp_tables.proofs.scripts.empty_scripts.Given as goal

-- the scripts so far are those of the desks before this one
abbrev pub invariant-loop-desk : goal.invariant-loop-desk
invariant-loop-desk l = AreDealt [] (l.desk - 1) l.scripts.items × (l.desk ≤ l.desks + 1)
