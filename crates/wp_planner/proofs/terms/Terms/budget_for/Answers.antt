use Rattle.std.proofs.Common.{◌≡◌, ◌∙◌, ◌*◌, ◌^◌, min, Some, ap, sym}
use Rattle.wp_node.specs.Prices.{price}
use Rattle.wp_planner.specs.Terms.{spent_on}
use Rattle.wp_planner.proofs.terms.Terms.budget_for.Goals as goal

pub returns-in-Some-clause-value : goal.returns-in-Some-clause-value
returns-in-Some-clause-value c =
    let terms = c.args.self.now in
    let count = c.in-Some.count in
    let own = c.price_of.ensures ∙ ap (price c.args.orders) c.capacity.ensures in
    let value = c.budget_of_nodes.ensures.value ∙ ap (λ p. min (p * count) (10 ^ 18)) own in
    let some : terms.nodes ≡ Some count = sym c.nodes.ensures ∙ c.in-Some.is in
    value ∙ sym (ap (spent_on c.args.orders terms.capacity terms.budget) some)
