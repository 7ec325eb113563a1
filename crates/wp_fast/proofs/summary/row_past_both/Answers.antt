use Rattle.std.proofs.Common.{◌≡◌}
use Rattle.wp_fast.specs.Summaries.{least_by}
use Rattle.wp_fast.proofs.ClassByClass.{row_each}
use Rattle.wp_fast.proofs.summary.row_past_both.Goals as goal

pub returns : goal.returns
returns c =
    row_each (λ after o. o ≡ least_by c.args.first.now c.args.next.now c.args.before after) _ c.of.result c.of.ensures c.least_sum.ensures c.least_sum-2.ensures
    c.least_sum-3.ensures c.least_sum-4.ensures c.least_sum-5.ensures c.least_sum-6.ensures c.least_sum-7.ensures
