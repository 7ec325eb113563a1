use Rattle.std.proofs.Common.{arith, ◌<◌, ◌∙◌, ℕ, length, subst, sym}
use Rattle.std.proofs.lemmas.Option.{get_or_from_slice_get}
use Rattle.wp_cert.proofs.LevelPicks.{one_picked, past_level}
use Rattle.wp_cert.proofs.levels.length_with.Goals as goal

pub order-requires : goal.order-requires
order-requires c =
    subst (λ (o : ℕ). o < length c.args.wave.now.orders) (get_or_from_slice_get c.args.added 0 c.in-Some.order c.in-Some.order (sym c.in-Some.ensures.first))
    (c.requires.orders 0 c.in-Some.order (omega (arith, c.len.ensures.count, c.if-len-eq1.true)))

pub returns-in-Some-clause-is : goal.returns-in-Some-clause-is
returns-in-Some-clause-is c =
    past_level c.args.wave.now c.args.level.now.batch c.args.added _ _ _ c.requires.level.points
    (one_picked c.args.wave.now c.args.added _ _ (sym c.in-Some.ensures.first) (sym c.len.ensures.count ∙ c.if-len-eq1.true) c.order.ensures.points)
    (rw c.requires.level.layout at c.length_with.ensures.shortest)

pub returns-in_default-clause-is : goal.returns-in_default-clause-is
returns-in_default-clause-is c =
    past_level c.args.wave.now c.args.level.now.batch c.args.added _ _ _ c.requires.level.points c.union_of.ensures.points
    (rw c.requires.level.layout at c.length_with-in_default.ensures.shortest)
