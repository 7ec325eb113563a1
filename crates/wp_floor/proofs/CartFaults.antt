-- Orders that no cart holds.
use Rattle.std.proofs.Common.{◌≡◌, ◌∙◌, sym, ap, ap₂, ℕ, ◌*◌, ◌<◌, ◌≤◌, ◌^◌, nat_lt, false, List, Option, Some, None, if◌then◌else◌, map, slice_get, arith}
use Rattle.std.proofs.Common.{lit<}
use Rattle.std.proofs.lemmas.Bool.{cond-false, cond-true, lt-ltb}
use Rattle.std.proofs.lemmas.Bool.Decides.{nat_tests}
use Rattle.wp_model.proofs.Demand.{few_order_units}
use Rattle.wp_model.specs.Limits.{most_lines, most_quantity}
use Rattle.wp_model.specs.Opening.{Opening, Order, line_units, lines_of, order_units}
use Rattle.wp_model.specs.Step.{cart_fault, is_over_cart}
use Rattle.wp_model.specs.TableLines.{article_in}
use Rattle.wp_model.specs.Tables.{IsReadOpening}
use Rattle.wp_model.specs.declared.reply.Reply.{Reply}
use Rattle.wp_model.specs.declared.reply.Reply.TheVariants as reply
use Rattle.wp_model.specs.declared.row.Line.{Line}
use Rattle.wp_tables.specs.Orders.{lines_in, name_of}
use Rattle.wp_floor.proofs.OrderLines.{lines_found}

-- the units of an order that is found are those of its lines
pub units_found : (opening : Opening) (orders : List Order) (order : List ℕ) (number : ℕ) (lines : List Line) → orders ≡ opening.orders
    → article_in (map name_of opening.orders) order ≡ Some number → slice_get (map lines_in orders) number ≡ Some lines
    → line_units lines ≡ order_units opening.orders order
units_found opening orders order number lines same found there =
    ap line_units (lines_found orders order number lines (ap (λ (os : List Order). article_in (map name_of os) order) same ∙ found) there
    ∙ ap (λ (os : List Order). lines_of os order) same)

-- they have 32 bits
pub units_small : (opening : Opening) (order : List ℕ) (units : ℕ) → IsReadOpening opening → units ≡ order_units opening.orders order → units < 2 ^ 32
units_small opening order units read is =
    let numeral : most_lines * most_quantity < 2 ^ 32 = lit< tt in
    omega (arith, is, few_order_units opening.stock.articles opening.orders order read.orders.each)

fault_is : (opening : Opening) (order : List ℕ) (cart : Option ℕ) (units : ℕ) → cart ≡ opening.units → units ≡ order_units opening.orders order
    → (if is_over_cart cart units then Some (reply.OverCart order units) else None) ≡ cart_fault opening order
fault_is opening order cart units carts is =
    ap₂ (λ (c : Option ℕ) (n : ℕ). let f : Option Reply = if is_over_cart c n then Some (reply.OverCart order n) else None in f) carts is

-- an order of more units than a cart holds is over it
pub over_cart : (opening : Opening) (order : List ℕ) (cart units : ℕ) → Some cart ≡ opening.units → units ≡ order_units opening.orders order → cart < units
    → Some (reply.OverCart order units) ≡ cart_fault opening order
over_cart opening order cart units carts is more =
    sym (cond-true (nat_lt cart units) (Some (reply.OverCart order units)) None (lt-ltb cart units more)) ∙ fault_is opening order (Some cart) units carts is

-- one of no more isn't
pub fits_cart : (opening : Opening) (order : List ℕ) (cart units : ℕ) → Some cart ≡ opening.units → units ≡ order_units opening.orders order → units ≤ cart
    → None ≡ cart_fault opening order
fits_cart opening order cart units carts is few =
    let none : nat_lt cart units ≡ false = grind (arith, nat_tests) in
    sym (cond-false (nat_lt cart units) (Some (reply.OverCart order units)) None none) ∙ fault_is opening order (Some cart) units carts is
