use Rattle.std.proofs.Common.{arith}
use Rattle.wp_cert.proofs.visit.owed_with.Goals as goal

pub returns : goal.returns
returns c = record {
  reach = c.reach_at-reach.result;
  reaches = c.reach_at-reach.ensures;
  is = λ most small.
      let is = c.owed.ensures most small in (
        λ low. let paid = is.0 low in
            omega (arith, paid, small, c.saturating_add.ensures, c.sum_at-sum.ensures, c.requires.off, c.requires.small),
        λ low. is.1 (omega (arith, low, small, c.saturating_add.ensures, c.sum_at-sum.ensures, c.requires.off, c.requires.small)),
      );
}
