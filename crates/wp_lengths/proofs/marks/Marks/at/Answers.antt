use Rattle.std.proofs.Common.{◌<◌, ◌∙◌, Bool, arith, ap, length}
use Rattle.std.specs.Prelude.{Some}
use Rattle.wp_lengths.specs.Marks.{marks_below}
use Rattle.wp_lengths.proofs.MarkLists.{mark_read, marks_get, marks_length}
use Rattle.wp_lengths.proofs.marks.Marks.at.Goals as goal

pub index-requires : goal.index-requires
index-requires c =
    let known : c.args.i < length (marks_below c.self.inside.bytes.items c.self.inside.count) = rw (← c.self.view_is) at c.requires in
    omega (arith, marks_length c.self.inside.bytes.items c.self.inside.count, c.self.invariant.enough)

pub returns : goal.returns
returns c =
    let known : c.args.i < length (marks_below c.self.inside.bytes.items c.self.inside.count) = rw (← c.self.view_is) at c.requires in
    let low : c.args.i < c.self.inside.count = omega (arith, marks_length c.self.inside.bytes.items c.self.inside.count) in
    rw (← c.self.view_is) (marks_get _ _ _ low ∙ ap (λ (m : Bool). Some m)
    (mark_read _ _ _ (omega (arith, c.self.invariant.enough)) c.index.ensures))
