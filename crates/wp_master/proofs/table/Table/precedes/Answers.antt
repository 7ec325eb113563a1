use Rattle.std.proofs.Common.{rules, ◌∙◌, ◌<◌, FitsSigned, to_z, of_z}
use Rattle.std.specs.Int.{w128}
use Rattle.std.proofs.lemmas.Int.{to_z-of_z}
use Rattle.wp_master.proofs.Choosing.{agree_more, below_tests, less_precedes, precedes_less, tested_below}
use Rattle.wp_master.proofs.table.Table.precedes.Goals as goal

pub returns-then-left-right-clause-is : goal.returns-then-left-right-clause-is
returns-then-left-right-clause-is c =
    let left : FitsSigned w128 c.in_ok-left.left = search rules in
    let right : FitsSigned w128 c.in_ok-right.right = search rules in
    let l = to_z-of_z w128 c.in_ok-left.left left ∙ c.in_ok-left.ensures.is in
    let r = to_z-of_z w128 c.in_ok-right.right right ∙ c.in_ok-right.ensures.is in
    let within : c.loop-j.j < c.args.self.now.width = search rules in (
      λ yes. less_precedes c.args.self.now c.args.row c.args.other c.args.place c.loop-j.j (to_z w128 (of_z w128 c.in_ok-left.left))
          (to_z w128 (of_z w128 c.in_ok-right.right)) c.loop-j.invariant within l r (tested_below _ _ yes),
      λ p. below_tests _ _ (precedes_less c.args.self.now c.args.row c.args.other c.args.place c.loop-j.j (to_z w128 (of_z w128 c.in_ok-left.left))
          (to_z w128 (of_z w128 c.in_ok-right.right)) c.loop-j.invariant l r (search rules) p),
    )

pub loop-j-preserved : goal.loop-j-preserved
loop-j-preserved c =
    let left : FitsSigned w128 c.in_ok-left.left = search rules in
    let right : FitsSigned w128 c.in_ok-right.right = search rules in
    agree_more c.args.self.now c.args.row c.args.other c.args.place c.loop-j.j (to_z w128 (of_z w128 c.in_ok-left.left))
    (to_z w128 (of_z w128 c.in_ok-right.right)) c.loop-j.invariant (to_z-of_z w128 c.in_ok-left.left left ∙ c.in_ok-left.ensures.is)
    (to_z-of_z w128 c.in_ok-right.right right ∙ c.in_ok-right.ensures.is) (search rules)
