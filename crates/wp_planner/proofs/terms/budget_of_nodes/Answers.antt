use Rattle.std.proofs.Common.{◌*◌, arith, ap}
use Rattle.wp_planner.proofs.terms.budget_of_nodes.Goals as goal

pub returns-clause-value : goal.returns-clause-value
returns-clause-value c =
    let product = ap (λ n. c.args.price * n) c.from.ensures in
    omega (arith, product, c.saturating_mul.ensures, c.min.ensures)
