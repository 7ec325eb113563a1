use Rattle.std.proofs.Common.{◌∙◌, ◌*ℤ◌, ℤ, ap, sym, subst, of_z, to_z, FitsSigned}
use Rattle.std.specs.Int.{w128}
use Rattle.std.proofs.lemmas.Int.{to_z-of_z}
use Rattle.wp_master.proofs.Quotients.{above_bits, factor_fits, quotient_of_bits}
use Rattle.wp_master.proofs.grid.divided_at_length.Goals as goal

pub nonzero_div-result : goal.nonzero_div-result
nonzero_div-result c =
    let whole = c.requires.whole in
    let fits = factor_fits c.args.denominator whole.0 c.requires.above (subst (FitsSigned w128) (sym whole.1) c.ranges.value) in (
      above_bits c.args.denominator c.requires.above,
      subst (FitsSigned w128)
          (sym (quotient_of_bits c.args.value c.args.denominator whole.0 c.ranges.value c.ranges.denominator c.requires.above whole.1)) fits,
    )

pub returns : goal.returns
returns c =
    let whole = c.requires.whole in
    let fits = factor_fits c.args.denominator whole.0 c.requires.above (subst (FitsSigned w128) (sym whole.1) c.ranges.value) in
    let is = quotient_of_bits c.args.value c.args.denominator whole.0 c.ranges.value c.ranges.denominator c.requires.above whole.1 in
    ap (λ (t : ℤ). c.args.denominator *ℤ t) (ap (λ (t : ℤ). to_z w128 (of_z w128 t)) is ∙ to_z-of_z w128 whole.0 fits) ∙ whole.1
