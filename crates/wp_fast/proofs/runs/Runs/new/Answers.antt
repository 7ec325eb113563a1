use Rattle.wp_fast.proofs.KeptAisles.{nothing_but}
use Rattle.wp_fast.proofs.runs.Runs.new.Goals as goal

pub renew-requires-clause-but : goal.renew-requires-clause-but
renew-requires-clause-but c = nothing_but _ _ _ _ c.of_nothing-tree.ensures c.all_marks.ensures.marked
