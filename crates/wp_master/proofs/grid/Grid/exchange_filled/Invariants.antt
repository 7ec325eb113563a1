use Rattle.std.proofs.Common.{◌-◌}
use Rattle.wp_master.specs.Exchanges.{IsRowExchanged}
use Rattle.wp_master.proofs.grid.Grid.exchange_filled.Given as goal

abbrev pub decreases-loop-j : goal.decreases-loop-j
decreases-loop-j l = l.fn.self.width - l.j

abbrev pub invariant-loop-j : goal.invariant-loop-j
invariant-loop-j l = IsRowExchanged l.fn.self l.self l.row l.by.place l.i l.j
