use Rattle.std.proofs.Common.{◌∙◌, ℤ, ap, subst, sym, FitsSigned, ◌*ℤ◌, pos, of_z, to_z, rules}
use Rattle.std.proofs.lemmas.Int.{to_z-of_z}
use Rattle.std.specs.Int.{w128}
use Rattle.wp_master.proofs.Products.{right_twice_fits, twofold_left, twofold_right}
use Rattle.wp_master.proofs.wide.twofold.Goals as goal

pub returns-in-Some : goal.returns-in-Some
returns-in-Some c =
    let twice : FitsSigned w128 c.in-Some.twice = search rules in
    twofold_left c.args.left c.args.right _ _ (to_z-of_z w128 c.in-Some.twice twice ∙ search rules)
    (to_z-of_z w128 c.args.right c.ranges.right) c.requires.leaves

pub returns-in-None : goal.returns-in-None
returns-in-None c =
    let same = to_z-of_z w128 c.args.right c.ranges.right in
    let fits = right_twice_fits c.args.left c.args.right c.requires.fits
    (λ f. c.in-None.ensures (subst (λ (t : ℤ). FitsSigned w128 (t *ℤ pos 2)) (sym (to_z-of_z w128 c.args.left c.ranges.left)) f)) in
    let inner = ap (λ (t : ℤ). to_z w128 (of_z w128 (t *ℤ pos 2))) same in
    twofold_right c.args.left c.args.right _ _ (inner ∙ to_z-of_z w128 (c.args.right *ℤ pos 2) fits)
    (to_z-of_z w128 c.args.left c.ranges.left) c.requires.leaves
