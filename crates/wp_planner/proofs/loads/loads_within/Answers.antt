use Rattle.std.proofs.lemmas.Bool.{both_ways}
use Rattle.wp_planner.proofs.OrderLoads.{fits_light, none_kept}
use Rattle.wp_planner.proofs.loads.loads_within.Goals as goal

pub loop-hold-init : goal.loop-hold-init
loop-hold-init c = none_kept _ _ c.no_loads-loads.ensures

pub returns-then-not-add_load-clause-light : goal.returns-then-not-add_load-clause-light
returns-then-not-add_load-clause-light c = (
  λ no. absurd (cc no),
  λ light. absurd (both_ways c.add_load.result c.if-not-add_load.true (c.add_load.ensures.fits.1
      (fits_light _ _ _ _ _ c.loop-hold-test.true (c.requires _ _ c.loop-hold-test.true) c.loop-hold.invariant light))),
)
