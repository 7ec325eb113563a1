use Rattle.std.proofs.Common.{arith}
use Rattle.std.proofs.lemmas.List.Sums.{sum_by_more_le_part}
use Rattle.wp_model.specs.Demand.{quantity_of}
use Rattle.wp_model.specs.declared.row.Line.{Line}
use Rattle.wp_waves.proofs.Demands.{quantity_of-le}
use Rattle.wp_waves.proofs.free_stock.lines_demand.Goals as goal

abbrev none : Line
none = record { article = 0; quantity = 0 }

pub overflow_add-units : goal.overflow_add-units
overflow_add-units c =
    let part = sum_by_more_le_part (quantity_of c.args.article) (λ (l : Line). l.quantity) c.args.lines.now c.loop-line.line-index none c.loop-line-test.true
    (quantity_of-le c.args.article) in
    omega (arith, part)
