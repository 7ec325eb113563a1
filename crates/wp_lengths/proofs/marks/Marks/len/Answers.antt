use Rattle.std.proofs.Common.{sym}
use Rattle.wp_lengths.proofs.MarkLists.{marks_length}
use Rattle.wp_lengths.proofs.marks.Marks.len.Goals as goal

pub returns : goal.returns
returns c = rw (← c.self.view_is) (sym (marks_length _ _))
