use Rattle.std.proofs.lemmas.Bool.{both_ways}
use Rattle.wp_pairs.proofs.Classes.{keeping_permitted, permitted_fits, permitted_keeps}
use Rattle.wp_pairs.proofs.pairs.Pairs.permits.Goals as goal

pub returns-then-fits : goal.returns-then-fits
returns-then-fits c = (
  λ yes. keeping_permitted _ _ c.fits.ensures.valid (c.fits.ensures.exact.0 c.if-fits.true) (c.keeps_all.ensures.exact.0 yes),
  λ permitted. c.keeps_all.ensures.exact.1 (permitted_keeps _ _ permitted),
)

pub returns-else-fits : goal.returns-else-fits
returns-else-fits c = (
  λ yes. absurd (both_ways c.fits.result c.if-fits.false yes),
  λ permitted. c.fits.ensures.exact.1 (permitted_fits _ _ permitted),
)
