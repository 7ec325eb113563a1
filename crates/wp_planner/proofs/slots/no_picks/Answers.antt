use Rattle.std.proofs.Common.{◌≡◌, ℕ, [], arith, subst}
use Rattle.wp_planner.specs.Slots.{ArePicksOf}
use Rattle.wp_planner.proofs.OrderPicks.{one_more_empty}
use Rattle.wp_planner.proofs.slots.no_picks.Goals as goal

pub loop-preserved : goal.loop-preserved
loop-preserved c =
    rw c.in_ok-push.ensures.items
    (λ rows. one_more_empty _ rows _ _ c.new.result c.new.ensures.layout c.new.ensures.empty (c.loop.invariant rows))

pub returns : goal.returns
returns c =
    let all : c.loop.counter ≡ c.args.orders = omega (arith, c.loop.auto.counter-end, c.loop-test.false) in
    λ rows. subst (λ (n : ℕ). ArePicksOf c.args.layout.now rows [] n c.loop.picks.items) all (c.loop.invariant rows)
