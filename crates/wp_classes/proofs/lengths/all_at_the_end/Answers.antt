use Rattle.std.proofs.Common.{◌≡◌, Some, None, if◌then◌else◌, subst, sym}
use Rattle.std.proofs.lemmas.List.{get_or-replicate}
use Rattle.wp_classes.specs.declared.lengths.OnwardLengths.{OnwardLengths}
use Rattle.wp_classes.specs.Least.{length_at}
use Rattle.wp_classes.specs.Tables.{is_whole}
use Rattle.wp_classes.proofs.lengths.all_at_the_end.Goals as goal

pub returns-clause-each : goal.returns-clause-each
returns-clause-each c = λ k d class within.
    subst (λ (l : OnwardLengths). length_at l class ≡ (if is_whole class then Some 0 else None)) (sym (get_or-replicate 64 k c.at_the_end.result d within))
    (c.at_the_end.ensures class)
