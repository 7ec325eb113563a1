use Rattle.std.proofs.Common.{slice_index_or, arith}
use Rattle.wp_waves.proofs.FreeUnits.{enough_left, next_line, no_line}
use Rattle.wp_waves.proofs.free_stock.FreeStock.take.Goals as goal

pub overflow_sub-index_mut : goal.overflow_sub-index_mut
overflow_sub-index_mut c =
    let lines = c.args.lines.now in
    let i = c.loop-line.line-index in
    let old = c.args.self.now.units.items in
    let units = c.loop-line.self.units.items in
    let value = c.index_mut.result.now in
    let next = next_line lines i old units value c.requires.within c.loop-line.invariant c.loop-line-test.true c.index_mut.ensures.value in
    omega (arith, enough_left lines i old units (slice_index_or lines i no_line) value next c.requires.covered, c.from.ensures)
