use Rattle.std.proofs.Common.{◌∙◌, ap, sym, eqb-true, eq-eqb}
use Rattle.wp_pairs.specs.Batches.{members, word_of}
use Rattle.wp_pairs.specs.Words.{word_of-members}
use Rattle.wp_pairs.proofs.batch.Batch.is.Goals as goal

pub returns : goal.returns
returns c = rw (← c.self.view_is, ← c.other.view_is) (
  λ same. ap members (eqb-true _ _ same),
  λ alike. eq-eqb _ _ (sym (word_of-members _ c.self.invariant) ∙ (ap word_of alike ∙ word_of-members _ c.other.invariant)),
)
