use Rattle.std.proofs.Common.{◌∙◌}
use Rattle.wp_fast.proofs.KeptAisles.{slots_joined, tree_kept}
use Rattle.wp_fast.proofs.runs.Runs.join.Goals as goal

pub renew-requires-clause-but : goal.renew-requires-clause-but
renew-requires-clause-but c =
    tree_kept c.self.inside.layout c.self.inside.picks.points c.args.more.now.points c.join.new.self.points c.marks_of-marks.result c.self.inside.tree
    c.join.ensures.points c.marks_of-marks.ensures.marked c.self.invariant.tree

pub invariant_of-self : goal.invariant_of-self
invariant_of-self c = record {
  layout_is = c.join.ensures.layout ∙ c.self.invariant.layout_is;
  slots = slots_joined _ _ _ _ c.join.ensures.points c.self.invariant.slots c.marks_of-marks.ensures.slots;
  tree = c.renew.ensures;
}

pub returns-clause-points : goal.returns-clause-points
returns-clause-points c = rw (← c.self.view_is) c.join.ensures.points
