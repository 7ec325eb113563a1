-- What each command does. The tests are made in the order in which they stand, and a refusal changes nothing.
use Rattle.std.specs.Prelude.{◌≡◌, ◌⊎◌, ℕ, ◌+◌, ◌&&◌, ◌==◌, not, nat_lt, nat_le, Bool, true, false, List, [], ◌∷◌, ◌++◌}
use Rattle.std.specs.Prelude.{length, Option, Some, None}
use Rattle.std.specs.Prelude.{if◌then◌else◌}
use Rattle.std.specs.Prelude.{option_map}
use Rattle.std.specs.List.{list_any}
use Rattle.std.specs.Option.{option_map_or, option_or}
use Rattle.std.specs.Str.{bytes_eq}
use Rattle.wp_model.specs.Opening.{Opening, article_name, is_known_order, order_units}
use Rattle.wp_model.specs.Limits.{most_on_hand, most_wave_orders}
use Rattle.wp_model.specs.State.{State, Wave}
use Rattle.wp_model.specs.Demand.{demand_at, free_units, short_article, wave_demand}
use Rattle.wp_model.specs.Change.{give_back, hold, put_wave, receive, settle, take}
use Rattle.wp_model.specs.declared.command.Command.{Command}
use Rattle.wp_model.specs.declared.command.Command.TheVariants as command
use Rattle.wp_model.specs.declared.location.Location.{Location}
use Rattle.wp_model.specs.declared.location.Side.{Side}
use Rattle.wp_model.specs.declared.location.Side.TheVariants as side
use Rattle.wp_model.specs.declared.reply.Reply.{Reply}
use Rattle.wp_model.specs.declared.reply.Reply.TheVariants as reply
use Rattle.wp_model.specs.declared.reply.WaveState.{WaveState}
use Rattle.wp_model.specs.declared.reply.WaveState.TheVariants as wave
use Rattle.wp_model.specs.declared.row.Row.{Row}

-- a reply, and the state after it
pub record Stepped : Type 0 where
  pub reply : Reply
  pub state : State

-- a reply refuses its command
abbrev pub is_refusal : Reply → Bool
is_refusal reply.Submitted = false
is_refusal reply.Allotted = false
is_refusal reply.Released = false
is_refusal reply.Cancelled = false
is_refusal reply.Picked = false
is_refusal reply.Received = false
is_refusal (reply.Refilled units) = false
is_refusal (reply.Lost article units) = false
is_refusal other = true

-- a reply says that a wave went out
abbrev pub says_released : Reply → Bool
says_released reply.Released = true
says_released other = false

-- a reply says that lost units are held elsewhere
abbrev pub says_refilled : Reply → Bool
says_refilled (reply.Refilled units) = true
says_refilled other = false

-- a refusal leaves the state as it was
abbrev pub refuse : State → Reply → Stepped
refuse state why = record { reply = why; state = state }

-- the first wave of a name, with its number, where the first wave of the list has this number
abbrev pub wave_from : ℕ → List Wave → List ℕ → Option (ℕ × Wave)
wave_from number [] name = None
wave_from number (w ∷ waves) name = if bytes_eq w.name name then Some (number, w) else wave_from (number + 1) waves name

-- what a command does to the wave of a name, where there is one
abbrev pub at_wave : State → List ℕ → (ℕ → Wave → Stepped) → Stepped
at_wave state name change = option_map_or (λ found. change found.0 found.1) (wave_from 0 state.waves name)
    (refuse state reply.UnknownWave)

-- a list of names has this one
abbrev pub is_among : List (List ℕ) → List ℕ → Bool
is_among names name = list_any (λ other. bytes_eq other name) names

-- a wave that isn't cancelled
abbrev pub is_live : WaveState → Bool
is_live wave.Cancelled = false
is_live other = true

-- the name of the first wave that isn't cancelled and has the order
abbrev pub taker_of : List Wave → List ℕ → Option (List ℕ)
taker_of [] order = None
taker_of (w ∷ waves) order = if is_live w.state && is_among w.orders order then Some w.name else taker_of waves order

-- units are more than a cart holds, which they never are where it holds any number
abbrev pub is_over_cart : Option ℕ → ℕ → Bool
is_over_cart None units = false
is_over_cart (Some cart) units = nat_lt cart units

-- why no cart holds an order: it has more units than a cart
abbrev pub cart_fault : Opening → List ℕ → Option Reply
cart_fault opening order =
    if is_over_cart opening.units (order_units opening.orders order)
    then Some (reply.OverCart order (order_units opening.orders order)) else None

-- why an order can't join a wave, after the orders that were named before it
abbrev pub order_fault : Opening → List Wave → List (List ℕ) → List ℕ → Option Reply
order_fault opening waves before order =
    if not (is_known_order opening.orders order) then Some (reply.UnknownOrder order)
    else if is_among before order then Some (reply.OrderTwice order)
    else option_or (option_map (reply.OrderTaken order) (taker_of waves order)) (cart_fault opening order)

-- the first fault of orders, one after the other
abbrev pub first_order_fault : Opening → List Wave → List (List ℕ) → List (List ℕ) → Option Reply
first_order_fault opening waves before [] = None
first_order_fault opening waves before (order ∷ orders) =
    option_or (order_fault opening waves before order) (first_order_fault opening waves (before ++ order ∷ []) orders)

-- why a wave can't be submitted
abbrev pub submit_fault : Opening → State → List ℕ → List (List ℕ) → Option Reply
submit_fault opening state name orders =
    if length orders == 0 then Some reply.NoOrders
    else if nat_lt most_wave_orders (length orders) then Some (reply.WaveFull (length orders))
    else option_or (option_map (λ found. reply.KnownWave) (wave_from 0 state.waves name))
    (first_order_fault opening state.waves [] orders)

-- a new wave, the last of all
abbrev pub add_wave : List ℕ → List (List ℕ) → State → State
add_wave name orders state = record state {
  waves = state.waves ++ record { name = name; orders = orders; state = wave.Submitted; picked = false } ∷ [];
}

-- Submit: the wave is made of these orders, in this order
abbrev pub submit : Opening → State → List ℕ → List (List ℕ) → Stepped
submit opening state name orders =
    option_map_or (refuse state) (submit_fault opening state name orders)
    (record { reply = reply.Submitted; state = add_wave name orders state })

-- more is wanted of an article than is free
abbrev pub refuse_short : Opening → State → Wave → ℕ → Stepped
refuse_short opening state w article =
    refuse state (reply.Short (article_name opening article) (wave_demand opening w.orders article)
    (free_units state.rows article None))

-- stock is held for a wave's orders where free stock covers them
abbrev pub hold_for : Opening → State → WaveState → Reply → ℕ → Wave → Stepped
hold_for opening state next done number w =
    option_map_or (refuse_short opening state w) (short_article opening state.rows w.orders None)
    (record {
      reply = done;
      state = put_wave number (record w { state = next })
          (hold (demand_at opening w.orders) None number (length w.orders) state);
    })

-- Allot: stock is held for the wave
abbrev pub allot : Opening → State → ℕ → Wave → WaveState → Stepped
allot opening state number w wave.Submitted = hold_for opening state wave.Allotted reply.Allotted number w
allot opening state number w other = refuse state (reply.WrongState other)

-- Release: the wave goes out, with the stock that it holds or that is held for it now
abbrev pub release : Opening → State → ℕ → Wave → WaveState → Stepped
release opening state number w wave.Submitted = hold_for opening state wave.Released reply.Released number w
release opening state number w wave.Allotted = record {
  reply = reply.Released;
  state = put_wave number (record w { state = wave.Released }) state;
}
release opening state number w other = refuse state (reply.WrongState other)

-- a wave is given up, and all that it holds goes back to free
abbrev pub give_up : State → ℕ → Wave → Stepped
give_up state number w = record {
  reply = reply.Cancelled;
  state = put_wave number (record w { state = wave.Cancelled }) (give_back number (length w.orders) state);
}

-- Cancel: a wave of which nothing was picked is given up
abbrev pub cancel : State → ℕ → Wave → WaveState → Stepped
cancel state number w wave.Submitted = give_up state number w
cancel state number w wave.Allotted = give_up state number w
cancel state number w wave.Released = if w.picked then refuse state reply.Picking else give_up state number w
cancel state number w other = refuse state (reply.WrongState other)

-- the same side of an aisle
abbrev pub same_side : Side → Side → Bool
same_side side.L side.L = true
same_side side.R side.R = true
same_side one other = false

-- the same location
abbrev pub same_location : Location → Location → Bool
same_location a b = (a.aisle == b.aisle) && (a.slot == b.slot) && same_side a.side b.side

-- the row at a location, with its number, where the first row of the list has this number
abbrev pub row_from : ℕ → List Row → Location → Option (ℕ × Row)
row_from number [] location = None
row_from number (row ∷ rows) location = if same_location row.location location then Some (number, row)
    else row_from (number + 1) rows location

-- the place of a name in a list, where the first has this place
abbrev pub place_from : ℕ → List (List ℕ) → List ℕ → Option ℕ
place_from place [] name = None
place_from place (other ∷ names) name = if bytes_eq other name then Some place else place_from (place + 1) names name

-- units that a wave holds: for the order at a place, at a row
pub record Held : Type 0 where
  pub order : ℕ
  pub row : ℕ
  pub article : ℕ
  pub units : ℕ

-- these units, where there are any
abbrev pub any_held : Held → Option Held
any_held held = if held.units == 0 then None else Some held

-- what the wave holds for an order at a location
abbrev pub held_for : State → ℕ → Wave → List ℕ → Location → Option Held
held_for state number w order location =
    option_map_or
    (λ place. option_map_or
    (λ found. any_held (record {
      order = place;
      row = found.0;
      article = found.1.article;
      units = state.held number
          place found.0;
    }))
    (row_from 0 state.rows location) None)
    (place_from 0 w.orders order) None

-- the tests that a pick and a loss share, and then what is done with the units that are held
abbrev pub at_held : State → ℕ → Wave → List ℕ → Location → ℕ → (Held → Stepped) → Stepped
at_held state number w order location quantity change =
    option_map_or (λ held. if nat_lt held.units quantity then refuse state (reply.TooMuch held.units) else change held)
    (held_for state number w order location) (refuse state (reply.NotHeld location))

-- the same, at a released wave
abbrev pub at_released : State → ℕ → Wave → List ℕ → Location → ℕ → (Held → Stepped) → WaveState → Stepped
at_released state number w order location quantity change wave.Released
    = at_held state number w order location quantity change
at_released state number w order location quantity change other = refuse state (reply.WrongState other)

-- Pick: the units are gone
abbrev pub pick : State → ℕ → Wave → ℕ → Held → Stepped
pick state number w quantity held = record {
  reply = reply.Picked;
  state = settle number (record w { picked = true }) (take number held.order held.row quantity state);
}

-- what one order wants of one article
abbrev pub one_demand : ℕ → ℕ → ℕ → ℕ → ℕ → ℕ
one_demand order article units a place = if (a == article) && (place == order) then units else 0

-- lost units are held elsewhere where the article's other rows cover them
abbrev pub refill : Opening → ℕ → Wave → ℕ → Held → State → Stepped
refill opening number w quantity held state =
    if nat_le quantity (free_units state.rows held.article (Some held.row))
    then record {
      reply = reply.Refilled quantity;
      state = settle number w (hold (one_demand held.order held.article quantity) (Some held.row) number
          (length w.orders) state);
    }
    else record { reply = reply.Lost (article_name opening held.article) quantity; state = settle number w state }

-- Missing: the units are written off, and held elsewhere where that can be
abbrev pub write_off : Opening → State → ℕ → Wave → ℕ → Held → Stepped
write_off opening state number w quantity held
    = refill opening number w quantity held (take number held.order held.row quantity state)

-- Receive: units come to a row of their article
abbrev pub receive_at : Opening → State → List ℕ → ℕ → ℕ → Row → Stepped
receive_at opening state article quantity number row =
    if not (bytes_eq (article_name opening row.article) article)
    then refuse state (reply.OtherArticle (article_name opening row.article))
    else if nat_lt most_on_hand (row.on_hand + quantity) then refuse state (reply.TooMany row.on_hand)
    else record { reply = reply.Received; state = receive number quantity state }

-- what a command is answered in a state, and the state after it
abbrev pub step : Opening → State → Command → Stepped
step opening state (command.Submit name orders) = submit opening state name orders
step opening state (command.Allot name) = at_wave state name (λ number w. allot opening state number w w.state)
step opening state (command.Release name) = at_wave state name (λ number w. release opening state number w w.state)
step opening state (command.Cancel name) = at_wave state name (λ number w. cancel state number w w.state)
step opening state (command.Pick name order location quantity) =
    at_wave state name (λ number w. at_released state number w order location quantity
    (pick state number w quantity) w.state)
step opening state (command.Missing name order location quantity) =
    at_wave state name (λ number w. at_released state number w order location quantity
    (write_off opening state number w quantity) w.state)
step opening state (command.Receive location article quantity) =
    option_map_or (λ found. receive_at opening state article quantity found.0 found.1) (row_from 0 state.rows location)
    (refuse state reply.NoRow)

-- the reply says that the command was done
abbrev pub SaysDone : Command → Reply → Type 0
SaysDone (command.Submit name orders) answer = answer ≡ reply.Submitted
SaysDone (command.Allot name) answer = answer ≡ reply.Allotted
SaysDone (command.Release name) answer = answer ≡ reply.Released
SaysDone (command.Cancel name) answer = answer ≡ reply.Cancelled
SaysDone (command.Pick name order location quantity) answer = answer ≡ reply.Picked
SaysDone (command.Missing name order location quantity) answer =
    (answer ≡ reply.Refilled quantity) ⊎ ((article : List ℕ) × (answer ≡ reply.Lost article quantity))
SaysDone (command.Receive location article quantity) answer = answer ≡ reply.Received
