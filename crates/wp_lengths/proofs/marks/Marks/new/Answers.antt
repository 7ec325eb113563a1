use Rattle.std.proofs.Common.{List, ℕ, ap, ◌∙◌}
use Rattle.wp_lengths.specs.Marks.{marks_below}
use Rattle.wp_lengths.proofs.MarkLists.{no_marks}
use Rattle.wp_lengths.proofs.marks.Marks.new.Goals as goal

pub returns : goal.returns
returns c = ap (λ (bytes : List ℕ). marks_below bytes 0) c.new.ensures.items ∙ no_marks
