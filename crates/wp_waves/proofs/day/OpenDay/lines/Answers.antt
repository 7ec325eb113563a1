use Rattle.std.proofs.Common.{◌≡◌, ◌≤◌, ◌∙◌, sym, subst, All, List, length, Some}
use Rattle.wp_model.proofs.Demand.{few_lines, lines_are}
use Rattle.wp_model.specs.Limits.{most_lines}
use Rattle.wp_model.specs.Opening.{IsLine, Opening, lines_of}
use Rattle.wp_model.specs.declared.row.Line.{Line}
use Rattle.wp_waves.proofs.Demands.{units_small}
use Rattle.wp_waves.proofs.OrderNames.{found_at, lines_found, some_found}
use Rattle.wp_waves.proofs.day.OpenDay.lines.Goals as goal

pub unwrap-number-requires : goal.unwrap-number-requires
unwrap-number-requires c =
    some_found c.self.inside.orders.now c.args.order.now c.find.result c.find.ensures (rw (← c.self.view_is) at c.requires)

pub lines-requires : goal.lines-requires
lines-requires c =
    (found_at c.self.inside.orders.now c.args.order.now c.unwrap-number.result (sym c.find.ensures ∙ c.unwrap-number.ensures)).within

pub returns-clause-lines : goal.returns-clause-lines
returns-clause-lines c =
    rw (← c.self.view_is)
    (lines_found c.self.inside.orders.now c.args.order.now c.unwrap-number.result c.lines.result.now (sym c.find.ensures ∙ c.unwrap-number.ensures)
    c.lines.ensures)

pub returns-clause-each : goal.returns-clause-each
returns-clause-each c =
    let is : c.lines.result.now ≡ lines_of c.self.inside.orders.now c.args.order.now =
    lines_found c.self.inside.orders.now c.args.order.now c.unwrap-number.result c.lines.result.now (sym c.find.ensures ∙ c.unwrap-number.ensures)
    c.lines.ensures in
    rw (← c.self.view_is)
    (subst (λ (lines : List Line). All (IsLine c.self.inside.stock.now.articles) lines) (sym is)
    (lines_are c.self.inside.stock.now.articles c.self.inside.orders.now c.args.order.now c.self.invariant.orders.each))

pub returns-clause-few : goal.returns-clause-few
returns-clause-few c =
    let is : c.lines.result.now ≡ lines_of c.self.inside.orders.now c.args.order.now =
    lines_found c.self.inside.orders.now c.args.order.now c.unwrap-number.result c.lines.result.now (sym c.find.ensures ∙ c.unwrap-number.ensures)
    c.lines.ensures in
    subst (λ (lines : List Line). length lines ≤ most_lines) (sym is)
    (few_lines c.self.inside.stock.now.articles c.self.inside.orders.now c.args.order.now c.self.invariant.orders.each)

pub returns-clause-small : goal.returns-clause-small
returns-clause-small c =
    let opening : Opening = record { stock = c.self.inside.stock.now; orders = c.self.inside.orders.now; units = c.self.inside.units } in
    units_small opening c.args.order.now c.lines.result.now c.self.invariant
    (lines_found c.self.inside.orders.now c.args.order.now c.unwrap-number.result c.lines.result.now (sym c.find.ensures ∙ c.unwrap-number.ensures)
    c.lines.ensures)
