-- Which open orders are served, each in its turn.
use Rattle.std.specs.Prelude.{◌≡◌, ℕ, ◌-◌, ◌<◌, ◌≤◌, List, [], ◌∷◌, ◌++◌, length, map, Option, Some, None, option_map}
use Rattle.std.specs.Prelude.{slice_index}
use Rattle.std.specs.List.{sum_by}
use Rattle.std.specs.List.Sorted.{IsNonDecreasingBy, IsPermutation, IsStableByKey}
use Rattle.std.specs.Option.{option_map_or}
use Rattle.std.specs.Ordering.{nat_cmp}
use Rattle.wp_model.specs.Demand.{first_short, free_units, order_demand, quantity_of}
use Rattle.wp_model.specs.Opening.{Opening}
use Rattle.wp_model.specs.State.{State}
use Rattle.wp_model.specs.declared.row.Line.{Line}
use Rattle.wp_waves.specs.Standing.{waiting_of}
use Rattle.wp_waves.specs.declared.free_stock.FreeStock.{FreeStock}
use Rattle.wp_waves.specs.declared.free_stock.Shortage.{Shortage}
use Rattle.wp_waves.specs.declared.open_orders.OpenOrder.{OpenOrder}
use Rattle.wp_waves.specs.declared.turns.OrderTurn.{OrderTurn}

-- the rank of an open order
abbrev pub rank_of : OpenOrder → ℕ
rank_of one = one.rank

-- the order of a turn
abbrev pub one_of : OrderTurn → OpenOrder
one_of turn = turn.one

-- open orders in their turns: the same orders, in ascending rank, and of equal ranks as they stood
pub record AreInTurn (listed turns : List OpenOrder) : Type 0 where
  pub same : IsPermutation listed turns
  pub ascending : IsNonDecreasingBy rank_of turns
  pub as_they_stood : IsStableByKey rank_of nat_cmp listed turns

-- how many units of an article lines want
abbrev pub lines_demand : List Line → ℕ → ℕ
lines_demand lines article = sum_by (quantity_of article) lines

-- these articles of so many: the first of which more is wanted than is free, with both
abbrev pub shortage_in : ℕ → (ℕ → ℕ) → (ℕ → ℕ) → Option Shortage
shortage_in articles wanted free =
    option_map (λ article. record { article = article; wanted = wanted article; free = free article })
    (first_short wanted free articles 0)

-- what an order is short of where so much is free of each article, none where that covers it
abbrev pub shortage_of : Opening → (ℕ → ℕ) → List ℕ → Option Shortage
shortage_of opening free order = shortage_in (length opening.stock.articles) (order_demand opening order) free

-- what is free after an order's turn: less what it wants where it is served, and as much as before where it is short
abbrev pub free_after : Opening → (ℕ → ℕ) → List ℕ → ℕ → ℕ
free_after opening free order =
    option_map_or (λ short. free) (shortage_of opening free order)
    (λ article. free article - order_demand opening order article)

-- what comes of open orders, each in its turn, where so much is free before the first
abbrev pub turns_of : Opening → (ℕ → ℕ) → List OpenOrder → List OrderTurn
turns_of opening free [] = []
turns_of opening free (one ∷ others) =
    (record { one = one; short = shortage_of opening free one.order })
    ∷ turns_of opening (free_after opening free one.order) others

-- the free units of each article in a state
abbrev pub free_in : State → ℕ → ℕ
free_in state article = free_units state.rows article None

-- the turns of open orders in a state: those that wait have one each, by rank, and each is served where what is free in
-- its turn covers it
pub record AreTurns (opening : Opening) (state : State) (listed : List OpenOrder)
    (turns : List OrderTurn) : Type 0 where
  pub in_turn : AreInTurn (waiting_of opening state.waves listed) (map one_of turns)
  pub each : turns ≡ turns_of opening (free_in state) (map one_of turns)

-- the orders that are served in turns, in the order in which they are served
abbrev pub served_if : Option Shortage → OpenOrder → List OpenOrder → List OpenOrder
served_if None one others = one ∷ others
served_if (Some short) one others = others

abbrev pub served_in : List OrderTurn → List OpenOrder
served_in [] = []
served_in (turn ∷ turns) = served_if turn.short turn.one (served_in turns)

-- served orders, and one more where it isn't short
abbrev pub served_after : Option Shortage → OpenOrder → List OpenOrder → List OpenOrder
served_after None one before = before ++ one ∷ []
served_after (Some short) one before = before

-- free stock that is kept, article by article
abbrev pub units_free : FreeStock → ℕ → ℕ
units_free free article = slice_index free.units.items article
