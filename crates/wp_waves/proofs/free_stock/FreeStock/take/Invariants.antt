use Rattle.wp_waves.proofs.FreeUnits.{AreTaken}
use Rattle.wp_waves.proofs.free_stock.FreeStock.take.Given as goal

-- the lines so far were taken
abbrev pub invariant-loop-line : goal.invariant-loop-line
invariant-loop-line l = AreTaken l.lines l.line-index l.fn.self.units.items l.self.units.items
