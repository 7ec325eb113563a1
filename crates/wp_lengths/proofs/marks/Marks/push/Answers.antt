use Rattle.std.proofs.Common.{◌≢◌, ◌∙◌, arith}
use Rattle.wp_lengths.proofs.MarkLists.{marks_more}
use Rattle.wp_lengths.proofs.marks.Marks.push.Goals as goal

pub returns-clause-ok : goal.returns-clause-ok
returns-clause-ok c =
    rw (← c.self.view_is) (marks_more _ _ _ _ _ (omega arith)
    (λ k low. let ne : k ≢ c.self.inside.count = omega arith in c.write_mark.ensures.elsewhere k ne ∙ c.make_room.ensures.same k low)
    c.write_mark.ensures.here)
