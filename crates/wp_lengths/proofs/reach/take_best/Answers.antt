use Rattle.std.proofs.Common.{ℕ, arith, subst}
use Rattle.std.specs.Prelude.{Option, None, Some}
use Rattle.wp_lengths.specs.Reaches.{IsBestBelow}
use Rattle.wp_lengths.proofs.Further.{best_of_all, most_of_all, most_of_more, none_before}
use Rattle.wp_lengths.proofs.reach.take_best.Goals as goal

pub loop-next-init : goal.loop-next-init
loop-next-init c = none_before c.args.pairs.now c.args.duals.now c.args.taken c.args.from

pub with-requires : goal.with-requires
with-requires c =
    let best = subst (λ (o : Option ℕ). IsBestBelow c.args.pairs.now c.args.duals.now c.args.taken c.args.from c.loop-next.next o) c.in-Some.is
    c.loop-next.invariant in
    omega (arith, best.later.known, c.orders-next-end.ensures.valid.most_orders)

pub returns-in-Some : goal.returns-in-Some
returns-in-Some c =
    let best = subst (λ (o : Option ℕ). IsBestBelow c.args.pairs.now c.args.duals.now c.args.taken c.args.from c.loop-next.next o) c.in-Some.is
    c.loop-next.invariant in
    λ count have. most_of_more _ _ _ _ _ count _
    (best_of_all c.args.pairs.now c.args.duals.now c.args.taken c.args.from c.loop-next.next (Some c.in-Some.order) best
    (omega (arith, c.loop-next-test.false, c.orders-next-end.ensures.value)))
    c.with.ensures.valid.ascending c.with.ensures.orders have

pub returns-in-None : goal.returns-in-None
returns-in-None c =
    let best = subst (λ (o : Option ℕ). IsBestBelow c.args.pairs.now c.args.duals.now c.args.taken c.args.from c.loop-next.next o) c.in-None.is
    c.loop-next.invariant in
    λ count have. most_of_all _ _ _ _ count
    (best_of_all c.args.pairs.now c.args.duals.now c.args.taken c.args.from c.loop-next.next None best
    (omega (arith, c.loop-next-test.false, c.orders-next-end.ensures.value))) have
