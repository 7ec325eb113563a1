use Rattle.std.proofs.Common.{ℕ, arith, subst, sym}
use Rattle.wp_lengths.specs.Visits.{IsReach}
use Rattle.wp_cert.proofs.Entering.{as_many_duals}
use Rattle.wp_cert.proofs.Limits.{own_reach}
use Rattle.wp_cert.proofs.visit.reach_at.Goals as goal

pub returns-then-reach-lt-MOST_DUAL : goal.returns-then-reach-lt-MOST_DUAL
returns-then-reach-lt-MOST_DUAL c =
    subst (λ (n : ℕ). IsReach c.args.visit.now.pairing c.args.tested.now.own.now.duals c.args.place.now.batch c.args.place.now.from n) (sym c.from.ensures)
    (own_reach c.args.tested.now.own.now.duals c.args.visit.now.duals c.requires.test.duals c.args.visit.now.pairing c.args.place.now.batch
    c.args.place.now.from c.reach_of-reach.result (as_many_duals c.args.visit.now c.args.tested.now c.requires.test) c.reach_of-reach.ensures (omega arith))
