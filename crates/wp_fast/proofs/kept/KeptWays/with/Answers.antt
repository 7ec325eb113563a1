use Rattle.wp_fast.proofs.KeptOrAnew.{kept_elsewhere}
use Rattle.wp_fast.proofs.kept.KeptWays.with.Goals as goal

pub renew_ways-requires-clause-elsewhere : goal.renew_ways-requires-clause-elsewhere
renew_ways-requires-clause-elsewhere c = kept_elsewhere _ _ _ _ _ c.joined-picks.ensures.points c.self.invariant.each

pub invariant_of-result : goal.invariant_of-result
invariant_of-result c = record { layout_is = c.joined-picks.ensures.layout; each = c.renew_ways.ensures }

pub returns-clause-points : goal.returns-clause-points
returns-clause-points c = rw (← c.self.view_is) c.joined-picks.ensures.points
