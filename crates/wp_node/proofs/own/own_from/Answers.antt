use Rattle.std.proofs.Common.{arith, refl, sym, ◌∙◌}
use Rattle.std.specs.Prelude.{sum}
use Rattle.wp_price.proofs.Passing.{short_marks_pass}
use Rattle.wp_node.proofs.DualSums.{no_lower_sum}
use Rattle.wp_node.proofs.Owns.{right_own}
use Rattle.wp_node.proofs.own.own_from.Goals as goal

pub of-requires : goal.of-requires
of-requires g c = omega (arith, c.in_ok-tight.ensures.tight.count, c.args.paired.now.few)

pub returns-clause-right : goal.returns-clause-right
returns-clause-right g c =
    let start = c.raise_all.ensures.start in
    let raised = no_lower_sum c.args.feasible c.raise_all.new.duals (c.requires.above.count ∙ sym start.above.count) c.raise_all.ensures.no_lower in
    rw c.of.ensures (right_own c.args.paired.now.wave.now c.args.paired.now.pairs.now (sum c.args.feasible) _ refl refl c.args.paired.now.as_many
    start.above.count raised start.above.feasible c.in_ok-tight.ensures.tight
    (short_marks_pass c.args.paired.now.wave.now c.args.paired.now.pairs.now c.raise_all.new.duals _ start.above.feasible c.in_ok-marks.ensures.short))
