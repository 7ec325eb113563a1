use Rattle.std.proofs.Common.{sym, ap, ap₂, ◌∙◌, eqb}
use Rattle.wp_pairs.specs.Batches.{word_of}
use Rattle.wp_pairs.specs.Words.{word_of-members}
use Rattle.wp_pairs.proofs.batch.BatchPartialEq.eq.Goals as goal

pub returns : goal.returns
returns c =
    let left = sym (word_of-members c.t1-1.inside.word c.t1-1.invariant) ∙ ap word_of c.t1-1.view_is in
    let right = sym (word_of-members c.t2-1.inside.word c.t2-1.invariant) ∙ ap word_of c.t2-1.view_is in
    c.eq.ensures ∙ ap₂ eqb left right
