-- Which open orders are left, and why.
use Rattle.std.specs.Prelude.{ℕ, ◌<◌, Bool, List, [], ◌∷◌, ◌++◌, length, Option, Some, None, if◌then◌else◌, IfSome}
use Rattle.std.specs.Prelude.{slice_index_or}
use Rattle.std.specs.List.{All, list_any}
use Rattle.std.specs.Str.{bytes_eq}
use Rattle.wp_model.specs.Opening.{Opening, Stock}
use Rattle.wp_model.specs.State.{Wave}
use Rattle.wp_outgoing.specs.declared.left.LeftOrder.{LeftOrder}
use Rattle.wp_outgoing.specs.declared.left.LeftWhy.{LeftWhy}
use Rattle.wp_outgoing.specs.declared.left.LeftWhy.TheVariants as why
use Rattle.wp_outgoing.specs.declared.lines.WaveOut.{WaveOut}
use Rattle.wp_waves.specs.OpenFile.{is_open}
use Rattle.wp_waves.specs.Standing.{standing_of}
use Rattle.wp_waves.specs.declared.free_stock.Shortage.{Shortage}
use Rattle.wp_waves.specs.declared.open_orders.OpenOrder.{OpenOrder}
use Rattle.wp_waves.specs.declared.standings.Standing.{Standing}
use Rattle.wp_waves.specs.declared.standings.Standing.TheVariants as standing
use Rattle.wp_waves.specs.declared.turns.OrderTurn.{OrderTurn}

-- what the turn of an order came to: what it was short of, none where it was served or had no turn
abbrev pub short_in : List OrderTurn → List ℕ → Option Shortage
short_in [] name = None
short_in (turn ∷ turns) name = if bytes_eq turn.one.order name then turn.short else short_in turns name

-- an order goes out with one of these waves
abbrev pub goes_out : List WaveOut → List ℕ → Bool
goes_out waves name = list_any (λ (wave : WaveOut). is_open wave.orders.items name) waves

-- why an order is left of which too little is free
abbrev pub short_why : Stock → Shortage → LeftWhy
short_why stock short = why.Short (slice_index_or stock.articles short.article []) short.wanted short.free

-- why an open order is left: it doesn't wait, it was short in its turn, or it goes out with none of the waves
abbrev pub left_why : Stock → Standing → Option Shortage → Bool → Option LeftWhy
left_why stock (standing.Taken wave) short out = Some (why.Taken wave)
left_why stock (standing.OverCart units) short out = Some (why.OverCart units)
left_why stock standing.Waiting (Some short) out = Some (short_why stock short)
left_why stock standing.Waiting None out = if out then None else Some why.Later

-- an order as it is left, where it is
abbrev pub left_for : List ℕ → Option LeftWhy → Option LeftOrder
left_for order None = None
left_for order (Some why) = Some (record { order = order; why = why })

-- why an open order is left, none where it goes out
abbrev pub why_left : Opening → List Wave → List OrderTurn → List WaveOut → OpenOrder → Option LeftWhy
why_left opening taken turns waves one =
    left_why opening.stock (standing_of opening taken one) (short_in turns one.order) (goes_out waves one.order)

-- an open order as it is left, none where it goes out
abbrev pub left_one : Opening → List Wave → List OrderTurn → List WaveOut → OpenOrder → Option LeftOrder
left_one opening taken turns waves one = left_for one.order (why_left opening taken turns waves one)

-- orders that are left, with one before them or after them, where it is left
abbrev pub left_before : Option LeftOrder → List LeftOrder → List LeftOrder
left_before None others = others
left_before (Some left) others = left ∷ others

abbrev pub left_after : List LeftOrder → Option LeftOrder → List LeftOrder
left_after others None = others
left_after others (Some left) = others ++ left ∷ []

-- the open orders that are left, as they stand in the open file
abbrev pub left_of : Opening → List Wave → List OrderTurn → List WaveOut → List OpenOrder → List LeftOrder
left_of opening taken turns waves [] = []
left_of opening taken turns waves (one ∷ listed) =
    left_before (left_one opening taken turns waves one) (left_of opening taken turns waves listed)

-- what orders are short of are articles of the stock
abbrev pub AreOfStock : Stock → List OrderTurn → Type 0
AreOfStock stock turns =
    All (λ (turn : OrderTurn). IfSome turn.short (λ (short : Shortage). short.article < length stock.articles)) turns
