-- The sheet of a wave: a heading, a part for each batch, the certificate, and a last line.
use Rattle.std.specs.Prelude.{◌≡◌, ℕ, Bool, true, false, List, [], ◌∷◌, ◌++◌, Option, None, Some, codes, length}
use Rattle.std.specs.Prelude.{slice_get, slice_index_or}
use Rattle.std.specs.Fmt.{decimal}
use Rattle.std.specs.List.{flat_map}
use Rattle.std.specs.Option.{option_map_or}
use Rattle.wp_model.specs.Journal.{after_space, line, number_after_space}
use Rattle.wp_model.specs.Opening.{Stock}
use Rattle.wp_model.specs.declared.point.Point.{Point}
use Rattle.wp_model.specs.declared.row.Hold.{Hold}
use Rattle.wp_machine.specs.declared.outcome.WaveHolds.{WaveHolds}
use Rattle.wp_sheets.specs.Picks.{AreByRow}
use Rattle.wp_sheets.specs.StockLines.{location_after_space, name_of_article}

-- whether the search ended with a batching of which it isn't known that it is a cheapest one
abbrev pub state_text : Bool → List ℕ
state_text true = codes "open"
state_text false = codes "proven"

-- what is added where a later entry cancels the wave
abbrev pub later_text : Bool → List ℕ
later_text true = codes " cancelled later"
later_text false = []

-- what a heading says of the wave: its name, the number of its release's entry, how many orders it has, and how many of
-- them a batch may have
abbrev pub wave_words : WaveHolds → ℕ → List ℕ
wave_words wave capacity =
    codes "wave" ++ after_space wave.wave ++ codes " entry" ++ number_after_space wave.number ++ codes " orders"
    ++ number_after_space (length wave.orders)
    ++ codes " capacity" ++ number_after_space capacity

-- what it adds where carts hold a number of units
abbrev pub units_words : Option ℕ → List ℕ
units_words None = []
units_words (Some units) = codes " units" ++ number_after_space units

-- what it says of the search: the cost of the batching, a bound that no batching costs less than, and the state
abbrev pub search_words : ℕ → ℕ → Bool → List ℕ
search_words cost bound state_open =
    codes " cost" ++ number_after_space cost ++ codes " bound" ++ number_after_space bound
    ++ after_space (state_text state_open)

-- the first line of a wave's sheet
abbrev pub heading_line : WaveHolds → ℕ → Option ℕ → ℕ → ℕ → Bool → Bool → List ℕ
heading_line wave capacity units cost bound state_open cancelled_later =
    line (wave_words wave capacity ++ units_words units ++ search_words cost bound state_open
    ++ later_text cancelled_later)

-- the name of the order at a place of a wave
abbrev pub name_of_order : WaveHolds → ℕ → List ℕ
name_of_order wave order = slice_index_or wave.orders order []

-- the same after a space
abbrev pub order_after_space : WaveHolds → ℕ → List ℕ
order_after_space wave order = after_space (name_of_order wave order)

-- the first line of a batch: its number, the length of its tour, and the names of its orders
abbrev pub batch_line : ℕ → WaveHolds → List ℕ → ℕ → List ℕ
batch_line number wave batch tour_length =
    line (codes "batch" ++ number_after_space number ++ codes " length" ++ number_after_space tour_length
    ++ codes " orders"
    ++ flat_map (order_after_space wave) batch)

-- a point: its aisle, a dash and its slot
abbrev pub point_text : Point → List ℕ
point_text point = decimal point.aisle ++ (45 ∷ decimal point.slot)

-- the same after a space
abbrev pub point_after_space : Point → List ℕ
point_after_space point = after_space (point_text point)

-- the line of a tour, point by point
abbrev pub tour_line : List Point → List ℕ
tour_line walk = line (codes "tour" ++ flat_map point_after_space walk)

-- the article of the row with a number, after a space
abbrev pub article_after_space : Stock → ℕ → List ℕ
article_after_space stock number = option_map_or (λ row. after_space (name_of_article stock row.article))
    (slice_get stock.rows number) []

-- the line of a pick: where it lies, the article, how many units, and the order that they are for
abbrev pub pick_line : WaveHolds → Stock → Hold → List ℕ
pick_line wave stock pick =
    line (codes "pick" ++ location_after_space stock pick.row ++ article_after_space stock pick.row
    ++ number_after_space pick.quantity
    ++ order_after_space wave pick.order)

-- the part of a batch: its first line, its tour, and its picks
abbrev pub batch_text : ℕ → WaveHolds → Stock → List ℕ → ℕ → List Point → List Hold → List ℕ
batch_text number wave stock batch tour_length walk picks =
    batch_line number wave batch tour_length ++ tour_line walk ++ flat_map (pick_line wave stock) picks

-- a text is the part of a batch, with its orders' holds by row as its picks
pub record IsBatchText (number : ℕ) (wave : WaveHolds) (stock : Stock) (batch : List ℕ) (tour_length : ℕ)
    (walk : List Point) (text : List ℕ) : Type 0 where
  pub picks : List Hold
  pub by_row : AreByRow wave.holds batch picks
  pub is : text ≡ batch_text number wave stock batch tour_length walk picks

-- the last line of a wave's sheet
abbrev pub end_line : List ℕ
end_line = line (codes "end wave")
