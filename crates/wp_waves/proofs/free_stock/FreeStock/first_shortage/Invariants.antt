use Rattle.wp_waves.specs.Shortages.{IsFirstAmong}
use Rattle.wp_waves.specs.Turns.{units_free}
use Rattle.wp_waves.proofs.free_stock.FreeStock.first_shortage.Given as goal

abbrev pub invariant-loop-line : goal.invariant-loop-line
invariant-loop-line l = IsFirstAmong l.lines (units_free l.self) l.line-index l.first
