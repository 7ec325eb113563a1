use Rattle.wp_pairs.proofs.Unions.{all_held}
use Rattle.wp_pairs.proofs.batch.Batch.holds_all.Goals as goal

pub returns : goal.returns
returns c = rw (← c.self.view_is, ← c.other.view_is) (all_held _ _ c.other.invariant)
