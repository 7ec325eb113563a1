use Rattle.wp_classes.specs.Onward.{IsLeastOf}
use Rattle.wp_fast.specs.Passages.{ByCrossings}
use Rattle.wp_fast.proofs.ClassByClass.{row_each}
use Rattle.wp_fast.proofs.summary.row_by_cross.Goals as goal

pub returns : goal.returns
returns c =
    row_each (λ after o. IsLeastOf (ByCrossings c.args.spacing c.args.before after) o) _ c.of.result c.of.ensures c.least_by_cross.ensures
    c.least_by_cross-2.ensures
    c.least_by_cross-3.ensures c.least_by_cross-4.ensures c.least_by_cross-5.ensures c.least_by_cross-6.ensures c.least_by_cross-7.ensures
