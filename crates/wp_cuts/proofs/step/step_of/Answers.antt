use Rattle.std.proofs.Common.{◌<◌, ◌≤◌, ℕ, arith, subst, ⊎_elim}
use Rattle.std.specs.Int.{IsGcd}
use Rattle.std.proofs.lemmas.Bool.{cases_lt}
use Rattle.wp_cuts.proofs.ComputedSteps.{step_is_computed}
use Rattle.wp_cuts.proofs.Divisors.{divisor_small, divisor_some, first_alone, first_both, greatest_is_step, next_greatest}
use Rattle.wp_cuts.proofs.step.step_of.Goals as goal

pub loop-aisle-init : goal.loop-aisle-init
loop-aisle-init c =
    let layout = c.args.layout.now in
    ⊎_elim
    (λ (few : layout.slots < 2). first_alone layout c.divisor_within-half.result few (c.divisor_within-half.ensures.alone few))
    (λ (more : 2 ≤ layout.slots). first_both layout c.divisor_within-half.result more (c.divisor_within-half.ensures.both more))
    (cases_lt layout.slots 2)

pub loop-aisle-preserved : goal.loop-aisle-preserved
loop-aisle-preserved c = next_greatest c.args.layout.now c.loop-aisle.aisle c.loop-aisle.half c.greatest_divisor-half.result
    (omega (arith, c.loop-aisle.auto.aisle)) c.loop-aisle.invariant
    (subst (λ (n : ℕ). IsGcd c.loop-aisle.half n c.greatest_divisor-half.result) c.spacing_after.ensures.value c.greatest_divisor-half.ensures)

pub overflow_mul-result : goal.overflow_mul-result
overflow_mul-result c = omega (
  arith,
  divisor_small c.args.layout.now c.loop-aisle.aisle c.loop-aisle.half c.aisles-aisle-end.ensures.valid c.loop-aisle.invariant.divides,
)

pub returns-clause-is : goal.returns-clause-is
returns-clause-is c = greatest_is_step c.args.layout.now c.loop-aisle.aisle c.loop-aisle.half c.aisles-aisle-end.ensures.valid
    (omega (arith, c.loop-aisle-test.false, c.loop-aisle.auto.aisle-end, c.aisles-aisle-end.ensures.value)) c.loop-aisle.invariant

pub returns-clause-computed : goal.returns-clause-computed
returns-clause-computed c =
    step_is_computed c.args.layout.now _ c.aisles-aisle-end.ensures.valid.clearance.0 (returns-clause-is c)

pub returns-clause-some : goal.returns-clause-some
returns-clause-some c = omega (
  arith,
  divisor_some c.args.layout.now c.loop-aisle.aisle c.loop-aisle.half c.aisles-aisle-end.ensures.valid c.loop-aisle.invariant.divides,
)
