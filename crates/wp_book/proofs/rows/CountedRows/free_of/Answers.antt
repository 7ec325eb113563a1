use Rattle.std.proofs.Common.{ap, arith}
use Rattle.wp_model.specs.Demand.{free_units}
use Rattle.wp_book.proofs.FreeUnits.{free_but}
use Rattle.wp_book.proofs.rows.CountedRows.free_of.Goals as goal

pub overflow_sub-result : goal.overflow_sub-result
overflow_sub-result c = omega (arith, free_but c.args.self.now c.args.article c.in-Some.row, c.free_in_all-all.ensures, c.free_at.ensures)

pub returns-in-Some : goal.returns-in-Some
returns-in-Some c =
    omega (
      arith,
      free_but c.args.self.now c.args.article c.in-Some.row,
      c.free_in_all-all.ensures,
      c.free_at.ensures,
      ap (free_units c.args.self.now c.args.article) c.in-Some.is,
    )
