use Rattle.std.proofs.Common.{rules, ◌∙◌, FitsSigned}
use Rattle.std.specs.Int.{w128}
use Rattle.std.proofs.lemmas.Int.{to_z-of_z}
use Rattle.wp_master.proofs.Pairs.{pair_is}
use Rattle.wp_master.proofs.run.Run.pair.Goals as goal

pub returns : goal.returns
returns c =
    let fits : FitsSigned w128 c.denominator.result = search rules in
    pair_is c.args.pool.now c.args.self.now.table c.args.self.now.basis.items c.in_ok-weights.weights.items c.in_ok-duals.duals.items _ c.requires.reached
    c.requires.risen (to_z-of_z w128 c.denominator.result fits ∙ c.denominator.ensures.value) c.in_ok-weights.ensures.count c.in_ok-weights.ensures.each
    c.in_ok-duals.ensures.count c.in_ok-duals.ensures.each
