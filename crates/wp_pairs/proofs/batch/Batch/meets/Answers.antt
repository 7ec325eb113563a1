use Rattle.wp_pairs.proofs.Unions.{is_zero, none_common, not_zero, some_common}
use Rattle.wp_pairs.proofs.batch.Batch.meets.Goals as goal

pub returns-clause-some : goal.returns-clause-some
returns-clause-some c = rw (← c.self.view_is, ← c.other.view_is) (λ test. some_common _ _ (not_zero _ test) c.other.invariant)

pub returns-clause-none : goal.returns-clause-none
returns-clause-none c = rw (← c.self.view_is, ← c.other.view_is) (λ test. none_common _ _ (is_zero _ test))
