use Rattle.wp_classes.specs.declared.class.Class.TheVariants.{UU1, E01, ZE1, EE1, EE2, Z00, Z01}
use Rattle.wp_fast.specs.Passages.{Tells, Then}
use Rattle.wp_fast.proofs.ClassByClass.{rows_least}
use Rattle.wp_fast.proofs.LeastSums.{least_sums}
use Rattle.wp_fast.proofs.summary.Summary.compose.Goals as goal

pub returns : goal.returns
returns c =
    rows_least (Then (Tells c.args.self.now) (Tells c.args.next.now)) _
    (λ after. least_sums c.args.self.now c.args.next.now UU1 after _ (c.row_past_both.ensures after))
    (λ after. least_sums c.args.self.now c.args.next.now E01 after _ (c.row_past_both-2.ensures after))
    (λ after. least_sums c.args.self.now c.args.next.now ZE1 after _ (c.row_past_both-3.ensures after))
    (λ after. least_sums c.args.self.now c.args.next.now EE1 after _ (c.row_past_both-4.ensures after))
    (λ after. least_sums c.args.self.now c.args.next.now EE2 after _ (c.row_past_both-5.ensures after))
    (λ after. least_sums c.args.self.now c.args.next.now Z00 after _ (c.row_past_both-6.ensures after))
    (λ after. least_sums c.args.self.now c.args.next.now Z01 after _ (c.row_past_both-7.ensures after))
