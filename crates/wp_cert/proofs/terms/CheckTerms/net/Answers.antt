use Rattle.std.proofs.Common.{◌*◌, ap, arith}
use Rattle.wp_cuts.specs.Prices.{taken_off_all}
use Rattle.wp_cert.specs.Terms.{Terms}
use Rattle.wp_cert.proofs.terms.CheckTerms.net.Goals as goal

pub returns : goal.returns
returns c = omega (
  arith,
  (rw c.as_slice.ensures at c.all_charged-charged.ensures),
  (rw (c.as_slice-2.ensures, c.cuts.ensures.value) at c.taken_off_all.ensures.is),
  c.saturating_sub.ensures,
  ap (λ (t : Terms). t.batches * c.args.own.now.count) c.self.view_is,
  ap (λ (t : Terms). taken_off_all t.cuts c.args.own.now.prices) c.self.view_is,
)
