use Rattle.std.proofs.Common.{◌*◌, ℕ, ap, arith, subst, sym}
use Rattle.wp_cuts.specs.Steps.{IsRoundedUp}
use Rattle.wp_cuts.proofs.Rounding.{times_rounded, times_small}
use Rattle.wp_cuts.proofs.step.rounded_up.Goals as goal

pub overflow_mul-result : goal.overflow_mul-result
overflow_mul-result c =
    let small = times_small c.args.step c.args.sixtieths c.times_for-times.result
    (rw (c.from.ensures, c.from-2.ensures) at c.times_for-times.ensures.least) in
    omega (arith, small, ap (λ (n : ℕ). c.times_for-times.result * n) c.from-3.ensures)

pub returns : goal.returns
returns c =
    subst (λ (n : ℕ). IsRoundedUp c.args.step c.args.sixtieths (c.times_for-times.result * n)) (sym c.from-3.ensures)
    (times_rounded c.args.step c.args.sixtieths c.times_for-times.result
    (rw (c.from.ensures, c.from-2.ensures) at c.times_for-times.ensures.enough)
    (rw (c.from.ensures, c.from-2.ensures) at c.times_for-times.ensures.least))
