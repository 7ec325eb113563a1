use Rattle.wp_fast.specs.Passages.{ByWays}
use Rattle.wp_fast.proofs.ClassByClass.{rows_least}
use Rattle.wp_fast.proofs.summary.Summary.of_aisle.Goals as goal

pub returns : goal.returns
returns c =
    rows_least (ByWays c.args.ways.now) _ c.row_by_way.ensures c.row_by_way-2.ensures c.row_by_way-3.ensures c.row_by_way-4.ensures c.row_by_way-5.ensures
    c.row_by_way-6.ensures c.row_by_way-7.ensures
