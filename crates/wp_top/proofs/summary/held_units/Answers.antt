use Rattle.std.proofs.Common.{ℕ, [], ◌∷◌, ap, arith, take}
use Rattle.std.proofs.lemmas.List.Sums.{sum_by-append, sum_by-cons}
use Rattle.wp_model.specs.History.{state_after}
use Rattle.wp_model.specs.declared.row.Row.{Row}
use Rattle.wp_top.specs.Summaries.{held_units}
use Rattle.wp_top.proofs.Writing.{take_more}
use Rattle.wp_top.proofs.summary.held_units.Goals as goal

pub loop-number-preserved : goal.loop-number-preserved
loop-number-preserved c =
    let rows = (state_after c.args.machine.now).rows in
    let number = c.loop-number.number in
    let held : Row → ℕ = λ row. row.held in
    let next = ap held_units (take_more rows number c.row.result c.row.ensures) in
    let parts = sum_by-append held (take number rows) (c.row.result ∷ []) in
    let one = sum_by-cons held c.row.result [] in
    record {
      units = omega (arith, c.loop-number.invariant.units, next, parts, one);
      few = omega (arith, c.loop-number.invariant.few);
    }
