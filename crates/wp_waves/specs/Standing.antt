-- How open orders stand before any has its turn.
use Rattle.std.specs.Prelude.{Bool, true, false, List, ℕ, Option, if◌then◌else◌}
use Rattle.std.specs.List.{filter}
use Rattle.std.specs.Option.{option_map_or}
use Rattle.wp_model.specs.Opening.{Opening, order_units}
use Rattle.wp_model.specs.State.{Wave}
use Rattle.wp_model.specs.Step.{is_over_cart, taker_of}
use Rattle.wp_waves.specs.declared.open_orders.OpenOrder.{OpenOrder}
use Rattle.wp_waves.specs.declared.standings.Standing.{Standing}
use Rattle.wp_waves.specs.declared.standings.Standing.TheVariants as standing

-- the name of the wave that has an open order, of those that aren't cancelled
abbrev pub taker_in : List Wave → OpenOrder → Option (List ℕ)
taker_in waves one = taker_of waves one.order

-- how an order stands that no wave has: it is over the cart, or it waits for its turn
abbrev pub standing_at_cart : Opening → List ℕ → Standing
standing_at_cart opening order =
    if is_over_cart opening.units (order_units opening.orders order)
    then standing.OverCart (order_units opening.orders order) else standing.Waiting

-- how an open order stands: the first that holds of lying in a wave that isn't cancelled, being over the cart, and
-- waiting
abbrev pub standing_of : Opening → List Wave → OpenOrder → Standing
standing_of opening waves one = option_map_or standing.Taken (taker_in waves one) (standing_at_cart opening one.order)

-- an order waits for its turn
abbrev pub is_waiting : Standing → Bool
is_waiting standing.Waiting = true
is_waiting (standing.Taken wave) = false
is_waiting (standing.OverCart units) = false

-- the open orders that wait for their turn, as they stand in the open file
abbrev pub waiting_of : Opening → List Wave → List OpenOrder → List OpenOrder
waiting_of opening waves = filter (λ one. is_waiting (standing_of opening waves one))
