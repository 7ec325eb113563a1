use Rattle.std.proofs.Common.{arith, inl, inr, ⊎_elim}
use Rattle.wp_fast.proofs.kept.joined.Goals as goal

pub returns-clause-points : goal.returns-clause-points
returns-clause-points c = λ p. (
  λ has. ⊎_elim
      (λ before. inl (⊎_elim (λ none. let nothing = rw c.new-both.ensures.empty at none in absurd (omega (arith, nothing.1))) (λ one. one)
      ((c.join.ensures.points p).0 before)))
      (λ later. inr later) ((c.join-2.ensures.points p).0 has),
  λ has. (c.join-2.ensures.points p).1 (⊎_elim (λ one. inl ((c.join.ensures.points p).1 (inr one))) (λ other. inr other) has),
)
