use Rattle.std.proofs.Common.{◌↔◌, IsTrue, Contains, subst}
use Rattle.wp_model.specs.declared.point.Point.{Point}
use Rattle.wp_graph.specs.Required.{has_point}
use Rattle.wp_graph.proofs.Members.{Contains-from_among, among_from_Contains}
use Rattle.wp_graph.proofs.PointTests.{among_has, has_among, same_tests}
use Rattle.wp_rules.specs.Rules.{stop}
use Rattle.wp_rules.proofs.depths.is_picked.Goals as goal

pub returns : goal.returns
returns c =
    let at = stop c.args.layout.now c.args.aisle c.args.depth in
    let points = c.args.picks.now.points in
    let exact = subst (λ (p : Point). IsTrue c.has.result ↔ Contains points p) c.stop.ensures c.has.ensures.exact in
    same_tests c.has.result (has_point points at.aisle at.slot) (λ has. among_has points at (among_from_Contains points at (exact.0 has)))
    (λ has. exact.1 (Contains-from_among points at (has_among points at.aisle at.slot has)))
