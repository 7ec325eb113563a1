use Rattle.wp_tables.specs.DeskFile.{desks_in}
use Rattle.wp_tables.specs.Scripts.{AreDealt}
use Rattle.wp_tables.proofs.scripts.CommandsSoFar.finish.Given as goal

-- the commands so far are dealt out
abbrev pub invariant-loop-asked : goal.invariant-loop-asked
invariant-loop-asked l = AreDealt l.yielded (desks_in l.fn.self) l.scripts.items
