use Rattle.std.proofs.Common.{◌≡◌, ◌+◌, ◌-◌, ◌∙◌, ap, arith, suc}
use Rattle.wp_graph.specs.Offsets.{aisle_offset}
use Rattle.wp_graph.proofs.layout.Layout.spacing_after.Goals as goal

pub returns-clause-value : goal.returns-clause-value
returns-clause-value c =
    let layout = c.args.self.now in
    let one : c.args.left + 1 ≡ suc c.args.left = omega arith in
    let is = c.length_between.ensures.value ∙ ap (λ n. aisle_offset layout n - aisle_offset layout c.args.left) one in
    omega (arith, is)
