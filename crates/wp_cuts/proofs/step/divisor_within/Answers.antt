use Rattle.std.proofs.Common.{ℕ, subst}
use Rattle.std.specs.Int.{IsGcd}
use Rattle.wp_cuts.proofs.step.divisor_within.Goals as goal

pub returns-else-slots-lt2-clause-both : goal.returns-else-slots-lt2-clause-both
returns-else-slots-lt2-clause-both c = λ more.
    subst (λ (n : ℕ). IsGcd n c.args.layout.now.clearance c.greatest_divisor.result) c.pitch.ensures.value
    (subst (λ (n : ℕ). IsGcd c.pitch.result n c.greatest_divisor.result) c.clearance-else-slots-lt2.ensures.value c.greatest_divisor.ensures)
