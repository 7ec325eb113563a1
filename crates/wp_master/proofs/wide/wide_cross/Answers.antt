use Rattle.std.proofs.Common.{rules, ◌∙◌, FitsSigned, of_z, to_z}
use Rattle.std.specs.Int.{w128}
use Rattle.std.proofs.lemmas.Int.{to_z-of_z}
use Rattle.wp_master.proofs.Products.{leaves_along, wide_along}
use Rattle.wp_master.proofs.wide.wide_cross.Goals as goal

pub widest-requires-clause-leaves : goal.widest-requires-clause-leaves
widest-requires-clause-leaves c =
    let one : FitsSigned w128 c.in_ok-first.first = search rules in
    let two : FitsSigned w128 c.in_ok-second.second = search rules in
    leaves_along (to_z w128 (of_z w128 c.args.left)) (to_z w128 (of_z w128 c.args.right)) (to_z w128 (of_z w128 c.args.other))
    (to_z w128 (of_z w128 c.args.further)) (to_z w128 (of_z w128 c.in_ok-first.first)) (to_z w128 (of_z w128 c.in_ok-second.second))
    (to_z-of_z w128 c.in_ok-first.first one ∙ c.in_ok-first.ensures.is) (to_z-of_z w128 c.in_ok-second.second two ∙ c.in_ok-second.ensures.is)
    c.in-None.ensures

pub returns-in-None-clause-wide : goal.returns-in-None-clause-wide
returns-in-None-clause-wide c = wide_along _ _ _ _ _ _ _ _ _ _ (to_z-of_z w128 c.args.left c.ranges.left) (to_z-of_z w128 c.args.right c.ranges.right)
    (to_z-of_z w128 c.args.other c.ranges.other) (to_z-of_z w128 c.args.further c.ranges.further) c.widest.ensures
