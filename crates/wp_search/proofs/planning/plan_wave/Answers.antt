use Rattle.std.proofs.Common.{sum}
use Rattle.wp_search.proofs.GoodPlans.{good_result}
use Rattle.wp_search.proofs.Searches.{search_has_bound, start_search}
use Rattle.wp_search.proofs.planning.plan_wave.Goals as goal

pub search_on-requires-clause-start : goal.search_on-requires-clause-start
search_on-requires-clause-start g c κs within =
    start_search c.args.wave.now c.args.capacity c.args.budget (sum c.in_ok-shares.shares) c.best_of.result c.best_of.ensures.best

pub unwrap-bound-requires : goal.unwrap-bound-requires
unwrap-bound-requires g c =
    rw (c.bound.ensures, c.bound-above.ensures) (search_has_bound c.args.wave.now c.args.capacity (sum c.in_ok-shares.shares) c.in_ok-search.search.tree
    c.orders.ensures.valid c.requires.some c.in_ok-search.ensures.search.right)

pub returns : goal.returns
returns g c =
    good_result c.args.wave.now c.args.capacity c.in_ok-shares.shares c.in_ok-search.search c.unwrap-bound.result c.requires.some
    c.in_ok-shares.ensures c.in_ok-search.ensures.search (rw (c.bound.ensures, c.bound-above.ensures) at c.unwrap-bound.ensures) c.args.budget
    c.plan_of.result c.in_ok-search.ensures.ended c.in_ok-search.ensures.budget c.plan_of.ensures.batching c.plan_of.ensures.cost
    c.plan_of.ensures.tree c.plan_of.ensures.bound c.plan_of.ensures.state
