use Rattle.std.proofs.lemmas.Bool.{both_ways}
use Rattle.wp_lengths.proofs.Further.{best_kept}
use Rattle.wp_lengths.proofs.reach.better_of.Goals as goal
use Rattle.wp_lengths.proofs.reach.better_of.Goals.{then-has-via-else-has+then-not-is_later, then-has-via-then-has}

pub returns-then-has : goal.returns-then-has
returns-then-has c = best_kept _ _ _ _ _ _ c.requires.best (λ later. elim c.then-has.branch [
  | then-has-via-then-has w ↦ c.has.ensures.exact.0 w.if-has.true
  | then-has-via-else-has+then-not-is_later w ↦ absurd (both_ways w.is_later.result w.if-not-is_later.true (w.is_later.ensures.1 later))
])
