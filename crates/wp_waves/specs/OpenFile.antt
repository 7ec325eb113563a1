-- What an open file says.
use Rattle.std.specs.Prelude.{ℕ, nat_le, Bool, List, [], ◌∷◌, ◌++◌, length, codes, if◌then◌else◌, Result, Ok, Err}
use Rattle.std.specs.List.{list_any}
use Rattle.std.specs.Option.{option_map_or}
use Rattle.std.specs.Str.{bytes_eq}
use Rattle.wp_model.specs.Opening.{Order, is_known_order}
use Rattle.wp_model.specs.Outcomes.{and_then}
use Rattle.wp_model.specs.State.{Wave}
use Rattle.wp_model.specs.Step.{taker_of}
use Rattle.wp_model.specs.TableLines.{Record}
use Rattle.wp_tables.specs.Fields.{Three, name_read, number_read, three_texts}
use Rattle.wp_tables.specs.Reading as table
use Rattle.wp_tables.specs.Records.{Kept, kept_in}
use Rattle.wp_tables.specs.declared.fault.Why.{Why}
use Rattle.wp_tables.specs.declared.fault.Why.TheVariants as cause
use Rattle.wp_waves.specs.Reading.{as_open, as_open_table, at_row}
use Rattle.wp_waves.specs.declared.fault.OpenFileFault.{OpenFileFault}
use Rattle.wp_waves.specs.declared.fault.OpenWhy.{OpenWhy}
use Rattle.wp_waves.specs.declared.fault.OpenWhy.TheVariants as why
use Rattle.wp_waves.specs.declared.open_orders.OpenOrder.{OpenOrder}

-- the most bytes that the name of a group may have
abbrev pub most_group_bytes : ℕ
most_group_bytes = 32

-- the greatest rank of an open order
abbrev pub greatest_rank : ℕ
greatest_rank = 1000000000

-- one of these open orders is the order of a name
abbrev pub is_open : List OpenOrder → List ℕ → Bool
is_open listed name = list_any (λ (one : OpenOrder). bytes_eq one.order name) listed

-- a field that names an order of the order file which no record before names
abbrev pub order_read : List Order → List OpenOrder → List ℕ → Result (List ℕ) OpenWhy
order_read orders before field = and_then (as_open (name_read field))
    (λ name. if is_known_order orders name then (if is_open before name then Err why.OrderTwice else Ok name)
    else Err why.UnknownOrder)

-- a field that names a group
abbrev pub group_read : List ℕ → Result (List ℕ) Why
group_read field = and_then (name_read field) (λ name. if nat_le (length name) most_group_bytes then Ok name
    else Err cause.BadName)

-- a field that is a rank
abbrev pub rank_read : List ℕ → Result ℕ Why
rank_read = number_read 0 greatest_rank

-- the open order that three fields write
abbrev pub open_of_three : List Order → List OpenOrder → Three (List ℕ) → Result OpenOrder OpenWhy
open_of_three orders before fields = and_then (order_read orders before fields.0)
    (λ order. and_then (as_open (group_read fields.1))
    (λ group. and_then (as_open (rank_read fields.2))
    (λ rank. Ok (record { order = order; group = group; rank = rank }))))

-- the open order that a record writes, after those that wrote these; or the first test that the record fails
abbrev pub open_order_of : List Order → List OpenOrder → Record → Result OpenOrder OpenWhy
open_order_of orders before fields = and_then (as_open (three_texts fields)) (open_of_three orders before)

-- the open orders with a record's
abbrev pub open_after : List Order → List OpenOrder → Record → Result (List OpenOrder) OpenWhy
open_after orders before fields = and_then (open_order_of orders before fields) (λ one. Ok (before ++ one ∷ []))

-- the open orders with those of records, one after the other; or the fault of the first that fails
abbrev pub open_made : List Order → List OpenOrder → List Kept → Result (List OpenOrder) OpenFileFault
open_made orders before [] = Ok before
open_made orders before (kept ∷ more) = and_then (at_row kept.number (open_after orders before kept.fields))
    (λ listed. open_made orders listed more)

-- the heading of an open file
abbrev pub open_heading : Record
open_heading = codes "order" ∷ codes "group" ∷ codes "rank" ∷ []

-- the open orders that an open file says for the orders of an order file, or the first record that fails and its first
-- failing test
abbrev pub open_said : List Order → List ℕ → Result (List OpenOrder) OpenFileFault
open_said orders text = and_then (as_open_table (table.under_heading open_heading (kept_in text))) (open_made orders [])

-- the group in which all orders leave where there is no open file
abbrev pub whole_group : List ℕ
whole_group = codes "W"

-- the open orders where there is no open file: those orders of the order file that lie in no wave which isn't cancelled
abbrev pub open_without : List Wave → List Order → List OpenOrder
open_without waves [] = []
open_without waves (order ∷ orders) =
    option_map_or (λ taker. open_without waves orders) (taker_of waves order.name)
    (record { order = order.name; group = whole_group; rank = 0 } ∷ open_without waves orders)
