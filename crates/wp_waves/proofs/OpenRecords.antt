-- The order that a record of an open file names.
use Rattle.std.proofs.Common.{◌≡◌, ◌∙◌, sym, ap, ap₂, ℕ, ◌<◌, Bool, List, length, get_or, Some, Result, Ok, Err, arith}
use Rattle.std.specs.Prelude.{if◌then◌else◌, slice_get}
use Rattle.wp_model.specs.Opening.{Order, is_known_order}
use Rattle.wp_model.specs.Outcomes.{and_then}
use Rattle.wp_tables.proofs.Parts.{item_at}
use Rattle.wp_tables.specs.Fields.{name_read}
use Rattle.wp_tables.specs.declared.fault.Why.{Why}
use Rattle.wp_waves.specs.OpenFile.{is_open, order_read}
use Rattle.wp_waves.specs.OpenOrders.{AreMarked}
use Rattle.wp_waves.specs.Reading.{as_open}
use Rattle.wp_waves.specs.declared.fault.OpenWhy.{OpenWhy}
use Rattle.wp_waves.specs.declared.fault.OpenWhy.TheVariants as why
use Rattle.wp_waves.specs.declared.open_orders.OpenOrder.{OpenOrder}
use Rattle.wp_waves.proofs.OrderNames.{IsFoundAt}

-- a name, where it is known or not, and open before or not
abbrev pub tested : Bool → Bool → List ℕ → Result (List ℕ) OpenWhy
tested known before name = if known then (if before then Err why.OrderTwice else Ok name) else Err why.UnknownOrder

abbrev order_if : List Order → List OpenOrder → Result (List ℕ) Why → Result (List ℕ) OpenWhy
order_if orders listed read = and_then (as_open read) (λ name. tested (is_known_order orders name) (is_open listed name) name)

-- the order that a field names
pub order_is : (orders : List Order) (listed : List OpenOrder) (field name : List ℕ) (known before : Bool) → name_read field ≡ Ok name
    → is_known_order orders name ≡ known → is_open listed name ≡ before → tested known before name ≡ order_read orders listed field
order_is orders listed field name known before read is_known is_before =
    sym (ap (order_if orders listed) read ∙ ap₂ (λ k b. tested k b name) is_known is_before)

-- the mark of an order says whether it is open
pub mark_is : (orders : List Order) (listed : List OpenOrder) (marks : List Bool) (name : List ℕ) (number : ℕ) (mark : Bool) → AreMarked orders listed marks
    → IsFoundAt orders name number → mark ≡ get_or marks number mark → is_open listed name ≡ mark
mark_is orders listed marks name number mark are found is =
    let there : slice_get marks number ≡ Some mark = item_at marks number mark (omega (arith, found.within, are.count)) is in
    let both : Some (is_open listed found.order.name) ≡ Some mark = sym (are.each number found.order found.there) ∙ there in
    let one : is_open listed found.order.name ≡ mark = cc both in
    ap (is_open listed) (sym found.named) ∙ one
