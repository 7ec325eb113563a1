use Rattle.wp_master.specs.Exchanges.{IsRowExchanged}
use Rattle.wp_master.proofs.grid.Grid.exchange_all.Given as goal

abbrev pub invariant-loop-j : goal.invariant-loop-j
invariant-loop-j l = IsRowExchanged l.fn.self l.self l.row l.by.place l.i l.j
