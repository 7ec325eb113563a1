use Rattle.std.proofs.Common.{◌+◌, ◌*◌, length}
use Rattle.wp_outside_tests.proofs.turns.+add_all+fn-add_all-join+arg3.Given as goal

abbrev pub decreases-add_all : goal.decreases-add_all
decreases-add_all g l = 2 * length l.passes.list

abbrev pub decreases-join+arg3 : goal.decreases-join+arg3
decreases-join+arg3 g l = 2 * length l.passes.list + 1
