-- What lines want.
use Rattle.std.proofs.Common.{◌≡◌, ◌∙◌, ap, ℕ, ◌*◌, ◌<◌, ◌≤◌, ◌^◌, ◌==◌, List, length, arith, lit<}
use Rattle.std.proofs.lemmas.Bool.{cond_both}
use Rattle.wp_model.proofs.Demand.{few_order_units}
use Rattle.wp_model.specs.Demand.{quantity_of}
use Rattle.wp_model.specs.Limits.{most_lines, most_quantity}
use Rattle.wp_model.specs.Opening.{Opening, line_units, lines_of, order_units}
use Rattle.wp_model.specs.Tables.{IsReadOpening}
use Rattle.wp_model.specs.declared.row.Line.{Line}

-- a line wants no more of an article than it wants
pub quantity_of-le : (article : ℕ) (line : Line) → quantity_of article line ≤ line.quantity
quantity_of-le article line = cond_both (line.article == article) line.quantity 0 (λ n. n ≤ line.quantity) (λ e. omega arith) (λ e. omega arith)

-- the units of an order have 32 bits
pub units_small : (opening : Opening) (order : List ℕ) (lines : List Line) → IsReadOpening opening → lines ≡ lines_of opening.orders order
    → line_units lines < 2 ^ 32
units_small opening order lines read is =
    let numeral : most_lines * most_quantity < 2 ^ 32 = lit< tt in
    omega (arith, ap line_units is, few_order_units opening.stock.articles opening.orders order read.orders.each)
