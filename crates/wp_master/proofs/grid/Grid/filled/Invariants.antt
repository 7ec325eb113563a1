use Rattle.wp_master.specs.Exchanges.{AreFilled, IsClear}
use Rattle.std.proofs.Common.{◌-◌}
use Rattle.wp_master.proofs.grid.Grid.filled.Given as goal

abbrev pub invariant-loop-back : goal.invariant-loop-back
invariant-loop-back l = record {
  filled : AreFilled l.self l.row l.filled;
  clear : IsClear l.self l.row (l.self.width - l.back) l.next;
}
