use Rattle.std.proofs.Common.{rules, ◌≡◌, ◌∙◌, sym, FitsSigned, of_z, to_z}
use Rattle.std.specs.Int.{w128}
use Rattle.std.proofs.lemmas.Int.{to_z-of_z}
use Rattle.std.proofs.lemmas.Result.{err_from_is_err_and}
use Rattle.wp_master.proofs.Entries.{same_exchange}
use Rattle.wp_master.proofs.Products.{wide_along}
use Rattle.wp_master.proofs.grid.Factors.exchanged.Goals as goal

pub returns-in_err-value-clause-wide : goal.returns-in_err-value-clause-wide
returns-in_err-value-clause-wide c =
    let pivot : to_z w128 (of_z w128 c.args.self.now.pivot) ≡ c.args.self.now.pivot = search (rules, to_z-of_z) in
    let beside : to_z w128 (of_z w128 c.args.self.now.beside) ≡ c.args.self.now.beside = search (rules, to_z-of_z) in
    let p = err_from_is_err_and c.from_residual.result c.from_residual.ensures.1 in
    rw (p.1, p.2) (wide_along _ _ _ _ _ _ _ _ _ _ pivot (to_z-of_z w128 c.args.own c.ranges.own) beside (to_z-of_z w128 c.args.above c.ranges.above)
    c.in_err-value.ensures.wide)

pub divided-requires-clause-whole : goal.divided-requires-clause-whole
divided-requires-clause-whole c =
    let pivot : to_z w128 (of_z w128 c.args.self.now.pivot) ≡ c.args.self.now.pivot = search (rules, to_z-of_z) in
    let beside : to_z w128 (of_z w128 c.args.self.now.beside) ≡ c.args.self.now.beside = search (rules, to_z-of_z) in
    let value : FitsSigned w128 c.in_ok-value.value = search rules in (
      c.requires.whole.0,
      c.requires.whole.1 ∙ sym (to_z-of_z w128 c.in_ok-value.value value ∙ c.in_ok-value.ensures.is ∙ same_exchange _ _ _ _ _ _ _ _ pivot
          (to_z-of_z w128 c.args.own c.ranges.own) beside (to_z-of_z w128 c.args.above c.ranges.above)),
    )
