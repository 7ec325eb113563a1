use Rattle.wp_fast.specs.Passages.{ByCrossings}
use Rattle.wp_fast.proofs.ClassByClass.{rows_least}
use Rattle.wp_fast.proofs.summary.Summary.of_crossing.Goals as goal

pub returns : goal.returns
returns c =
    rows_least (ByCrossings c.args.spacing) _ c.row_by_cross.ensures c.row_by_cross-2.ensures c.row_by_cross-3.ensures c.row_by_cross-4.ensures
    c.row_by_cross-5.ensures
    c.row_by_cross-6.ensures c.row_by_cross-7.ensures
