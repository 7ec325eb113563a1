use Rattle.wp_classes.specs.Onward.{IsLeastOf}
use Rattle.wp_fast.specs.Passages.{Stays}
use Rattle.wp_fast.proofs.ClassByClass.{row_each}
use Rattle.wp_fast.proofs.summary.row_staying.Goals as goal

pub returns : goal.returns
returns c =
    row_each (λ after o. IsLeastOf (Stays c.args.before after) o) _ c.of.result c.of.ensures c.length_staying.ensures c.length_staying-2.ensures
    c.length_staying-3.ensures
    c.length_staying-4.ensures c.length_staying-5.ensures c.length_staying-6.ensures c.length_staying-7.ensures
