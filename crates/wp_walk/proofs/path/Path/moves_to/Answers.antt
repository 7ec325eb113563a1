use Rattle.std.proofs.Common.{◌≡◌, ◌∙◌, arith, ap, length, sym}
use Rattle.wp_walk.proofs.PathPoints.{after_get, never_there, points_differ, points_same}
use Rattle.wp_walk.proofs.path.Path.moves_to.Goals as goal

pub returns-then-eq-2-clause-goal : goal.returns-then-eq-2-clause-goal
returns-then-eq-2-clause-goal c =
    let len = c.self.inside.points.ok.0 in
    rw (sym c.self.view_is) (after_get c.args.start c.self.inside.points.items c.loop-i.i c.index.result.now (omega arith)
    ∙ sym c.index.ensures ∙ points_same _ _ c.if-eq-2.ensures)

pub returns-clause-goal : goal.returns-clause-goal
returns-clause-goal c =
    let len : length c.args.self.now ≡ c.self.inside.points.len = sym (ap length c.self.view_is) ∙ sym c.self.inside.points.ok.0 in
    absurd (never_there c.args.start c.args.self.now c.args.goal (record { aisle = 0; slot = 0 }) c.requires (points_differ _ _ c.if-eq.ensures)
    (λ k within. c.loop-i.invariant k (omega arith)))
