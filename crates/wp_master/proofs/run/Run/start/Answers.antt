use Rattle.std.proofs.Common.{rules}
use Rattle.wp_master.proofs.Runs.{start_is_reached}
use Rattle.wp_master.proofs.run.Run.start.Goals as goal

pub returns : goal.returns
returns c = start_is_reached c.args.pool.now c.in_ok-table.table c.in_ok-basis.basis.items c.in_ok-table.ensures (search rules) (search rules)
