use Rattle.wp_dispatch.proofs.FreeUnits.{AreAdded}
use Rattle.wp_dispatch.proofs.free_stock.free_stock_of.Given as goal
use Rattle.wp_model.specs.History.{state_after}

-- the rows so far have added what they have free
abbrev pub invariant-loop-row : goal.invariant-loop-row
invariant-loop-row l = AreAdded (state_after l.machine).rows l.row l.articles l.units.items
