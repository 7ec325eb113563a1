use Rattle.std.proofs.Common.{inr, ⊎_elim}
use Rattle.wp_lengths.proofs.Unions.{nothing_in}
use Rattle.wp_lengths.proofs.wave.copy_of.Goals as goal

pub returns-clause-points : goal.returns-clause-points
returns-clause-points c = λ p. (
  λ has. ⊎_elim (λ old. absurd (nothing_in _ p c.new-copy.ensures.empty old)) (λ new. new) ((c.join.ensures.points p).0 has),
  λ has. (c.join.ensures.points p).1 (inr has),
)
