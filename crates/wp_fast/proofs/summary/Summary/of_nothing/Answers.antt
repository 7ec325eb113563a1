use Rattle.wp_fast.specs.Passages.{Stays}
use Rattle.wp_fast.proofs.ClassByClass.{rows_least}
use Rattle.wp_fast.proofs.summary.Summary.of_nothing.Goals as goal

pub returns : goal.returns
returns c =
    rows_least (Stays) _ c.row_staying.ensures c.row_staying-2.ensures c.row_staying-3.ensures c.row_staying-4.ensures c.row_staying-5.ensures
    c.row_staying-6.ensures c.row_staying-7.ensures
