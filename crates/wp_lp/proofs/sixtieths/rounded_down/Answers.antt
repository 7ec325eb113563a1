use Rattle.std.proofs.Common.{to_z, of_z, ◌<◌, ◌^◌, ◌++◌, ◌∷◌, [], ℕ, ℤ, arith, rules, subst}
use Rattle.std.specs.Int.{w128}
use mir.Val.{SFits}
use Rattle.std.proofs.lemmas.Int.{to_z-of_z}
use Rattle.std.proofs.lemmas.Grind.{common_steps}
use Rattle.std.proofs.lemmas.List.Elements.{All-push, All-same}
use Rattle.wp_master.specs.Pairs.{number_at}
use Rattle.wp_lp.specs.Runs.{IsSixtieths}
use Rattle.wp_lp.proofs.RoundedDown.{each_more}
use Rattle.wp_lp.proofs.sixtieths.rounded_down.Goals as goal

pub loop-dual-preserved : goal.loop-dual-preserved
loop-dual-preserved c =
    let count = c.loop-dual.invariant.count in
    let items = c.in_ok-push.ensures.items in
    let fits : SFits w128 (number_at c.args.duals.now c.loop-dual.dual-index) = search rules in
    let value = to_z-of_z w128 (number_at c.args.duals.now c.loop-dual.dual-index) fits in
    let small = c.sixtieths_of.ensures.small in
    let is = subst (λ (x : ℤ). IsSixtieths x (to_z w128 (of_z w128 c.args.denominator)) c.sixtieths_of.result) value c.sixtieths_of.ensures.is in
    record {
      count = grind (arith, common_steps);
      each = each_more (λ (place r : ℕ). IsSixtieths (number_at c.args.duals.now place) (to_z w128 (of_z w128 c.args.denominator)) r)
          c.loop-dual.sixtieths.items c.push.new.self.items
          c.loop-dual.dual-index c.sixtieths_of.result count items c.loop-dual.invariant.each is;
      small = All-same (λ (d : ℕ). d < 2 ^ 34) c.push.new.self.items (c.loop-dual.sixtieths.items ++ c.sixtieths_of.result ∷ []) items
          (All-push (λ (d : ℕ). d < 2 ^ 34) c.loop-dual.sixtieths.items c.sixtieths_of.result c.loop-dual.invariant.small small);
    }
