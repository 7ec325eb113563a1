use Rattle.std.proofs.Common.{arith, inr, ⊎_elim}
use Rattle.wp_fast.proofs.runs.Runs.of.Goals as goal

pub returns-clause-points : goal.returns-clause-points
returns-clause-points c = λ p. (
  λ has. ⊎_elim (λ none. let nothing = rw c.new-runs.ensures.empty at none in absurd (omega (arith, nothing.1))) (λ more. more)
      ((c.join.ensures.points p).0 has),
  λ has. (c.join.ensures.points p).1 (inr has),
)
