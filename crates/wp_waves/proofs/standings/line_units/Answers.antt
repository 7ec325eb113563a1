use Rattle.std.proofs.Common.{arith}
use Rattle.std.proofs.lemmas.List.Sums.{sum_by_more_le}
use Rattle.wp_model.specs.declared.row.Line.{Line}
use Rattle.wp_waves.proofs.standings.line_units.Goals as goal

abbrev none : Line
none = record { article = 0; quantity = 0 }

pub overflow_add-units : goal.overflow_add-units
overflow_add-units c =
    omega (arith, sum_by_more_le (λ (line : Line). line.quantity) c.args.lines.now c.loop-line.line-index none c.loop-line-test.true)
