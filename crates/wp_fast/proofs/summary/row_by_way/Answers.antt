use Rattle.wp_classes.specs.Onward.{IsLeastOf}
use Rattle.wp_fast.specs.Passages.{ByWays}
use Rattle.wp_fast.proofs.ClassByClass.{row_each}
use Rattle.wp_fast.proofs.summary.row_by_way.Goals as goal

pub returns : goal.returns
returns c =
    row_each (λ after o. IsLeastOf (ByWays c.args.ways.now c.args.before after) o) _ c.of.result c.of.ensures c.least_by_way.ensures c.least_by_way-2.ensures
    c.least_by_way-3.ensures c.least_by_way-4.ensures c.least_by_way-5.ensures c.least_by_way-6.ensures c.least_by_way-7.ensures
