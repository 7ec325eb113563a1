use Rattle.wp_master.specs.Exchanges.{AreExchanged}
use Rattle.wp_master.proofs.grid.Grid.exchange.Given as goal

abbrev pub invariant-loop-i : goal.invariant-loop-i
invariant-loop-i l = AreExchanged l.fn.self l.self l.row l.place l.i
