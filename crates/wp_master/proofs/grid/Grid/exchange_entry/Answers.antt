use Rattle.std.proofs.Common.{rules, ◌∙◌, refl, FitsSigned}
use Rattle.std.specs.Int.{w128}
use Rattle.std.proofs.lemmas.Int.{to_z-of_z}
use Rattle.std.proofs.lemmas.Result.{err_from_is_err_and}
use Rattle.wp_master.proofs.Products.{wide_along}
use Rattle.wp_master.proofs.grid.Grid.exchange_entry.Goals as goal

pub returns-in_err-entry-clause-wide : goal.returns-in_err-entry-clause-wide
returns-in_err-entry-clause-wide c =
    let own : FitsSigned w128 c.entry-own.result = search rules in
    let above : FitsSigned w128 c.entry-above.result = search rules in
    let p = err_from_is_err_and c.from_residual.result c.from_residual.ensures.1 in
    rw (p.1, p.2) (wide_along _ _ _ _ _ _ _ _ _ _ refl (to_z-of_z w128 c.entry-own.result own ∙ c.entry-own.ensures) refl
    (to_z-of_z w128 c.entry-above.result above ∙ c.entry-above.ensures) c.in_err-entry.ensures.wide)
