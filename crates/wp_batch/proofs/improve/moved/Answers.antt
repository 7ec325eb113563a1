use Rattle.std.proofs.Common.{sym, ◌∙◌}
use Rattle.wp_batch.proofs.Splits.{first_in}
use Rattle.wp_batch.proofs.improve.moved.Goals as goal

pub placed-requires : goal.placed-requires
placed-requires c = record { known = c.if-order-lt64.true; rest = first_in _ _ (sym c.least.ensures.first ∙ c.in-Some.is) }
