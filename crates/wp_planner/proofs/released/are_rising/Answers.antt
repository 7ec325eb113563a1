use Rattle.std.proofs.Common.{arith, refl}
use Rattle.std.proofs.lemmas.Bool.{both_ways}
use Rattle.wp_planner.proofs.Rising.{each_before_one_more, next_at, rises_from_next}
use Rattle.wp_planner.proofs.released.are_rising.Goals as goal

pub loop-place-preserved : goal.loop-place-preserved
loop-place-preserved c =
    each_before_one_more _ _ _ _ (omega arith) (c.is_before.ensures.0 c.if-not-is_before.false) c.loop-place.invariant

pub returns-then-not-is_before : goal.returns-then-not-is_before
returns-then-not-is_before c = (
  λ no. absurd (cc no),
  λ rises. absurd (both_ways c.is_before.result c.if-not-is_before.true (c.is_before.ensures.1 (next_at _ _ _ _ (omega arith) (omega arith) rises))),
)

pub returns : goal.returns
returns c = (
  λ _. rises_from_next c.args.holds.now (λ place first second low. c.loop-place.invariant place first second (omega arith)),
  λ _. refl,
)
