use Rattle.std.proofs.Common.{◌∙◌, ◌≤◌, sym, ap, List, map, length, slice_get, subst}
use Rattle.std.specs.List.{All}
use Rattle.wp_model.proofs.Demand.{few_lines, lines_are}
use Rattle.wp_model.specs.Opening.{IsLine, Order}
use Rattle.wp_model.specs.Limits.{most_lines}
use Rattle.wp_model.specs.declared.row.Line.{Line}
use Rattle.wp_tables.specs.Orders.{lines_in}
use Rattle.wp_floor.proofs.OrderLines.{lines_found, no_lines}
use Rattle.wp_floor.proofs.OrderFaults.{found_within}
use Rattle.wp_floor.proofs.wanting.order_lines.Goals as goal

pub lines-requires : goal.lines-requires
lines-requires c =
    found_within c.args.opening.now c.requires.named.0 c.in-Some.number (length c.orders.result.now) (sym c.requires.named.1 ∙ c.in-Some.is)
    (ap (λ (orders : List Order). length orders) c.orders.ensures)

pub returns-in-Some-clause-lines : goal.returns-in-Some-clause-lines
returns-in-Some-clause-lines c = λ order is.
    lines_found c.args.opening.now.orders order c.in-Some.number c.lines.result.now (sym is ∙ c.in-Some.is)
    (ap (λ (orders : List Order). slice_get (map lines_in orders) c.in-Some.number) (sym c.orders.ensures) ∙ c.lines.ensures)

pub returns-in-Some-clause-each : goal.returns-in-Some-clause-each
returns-in-Some-clause-each c =
    let order = c.requires.named.0 in
    subst (λ (lines : List Line). All (IsLine c.args.opening.now.stock.articles) lines) (sym (returns-in-Some-clause-lines c order c.requires.named.1))
    (lines_are c.args.opening.now.stock.articles c.args.opening.now.orders order c.requires.read.orders.each)

pub returns-in-Some-clause-few : goal.returns-in-Some-clause-few
returns-in-Some-clause-few c =
    let order = c.requires.named.0 in
    subst (λ (lines : List Line). length lines ≤ most_lines) (sym (returns-in-Some-clause-lines c order c.requires.named.1))
    (few_lines c.args.opening.now.stock.articles c.args.opening.now.orders order c.requires.read.orders.each)

pub returns-in-None-clause-lines : goal.returns-in-None-clause-lines
returns-in-None-clause-lines c = λ order is. sym (no_lines c.args.opening.now.orders order (sym is ∙ c.in-None.is))
