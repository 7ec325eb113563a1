use Rattle.std.proofs.Common.{List, []}
use Rattle.wp_model.specs.declared.row.StockRow.{StockRow}
use Rattle.wp_planner.specs.Slots.{ArePicksOf}
use Rattle.wp_planner.proofs.slots.no_picks.Given as goal

abbrev pub invariant-loop : goal.invariant-loop
invariant-loop l = (rows : List StockRow) → ArePicksOf l.layout rows [] l.counter l.picks.items
