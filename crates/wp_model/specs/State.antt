-- Where the stock and the waves stand.
use Rattle.std.specs.Prelude.{ℕ, Bool, List, [], length, map}
use Rattle.wp_model.specs.Opening.{Opening}
use Rattle.wp_model.specs.Sums.{sum_below}
use Rattle.wp_model.specs.declared.reply.WaveState.{WaveState}
use Rattle.wp_model.specs.declared.row.Row.{Row}
use Rattle.wp_model.specs.declared.row.StockRow.{StockRow}

-- a wave: its name, the names of its orders in order, how far it is, and whether a unit of it was picked
pub record Wave : Type 0 where
  pub name : List ℕ
  pub orders : List (List ℕ)
  pub state : WaveState
  pub picked : Bool

-- the rows in the order of their locations, the waves in order of submission, and how many units are held for a
-- wave, by its number, the place of an order in it and the row
pub record State : Type 0 where
  pub rows : List Row
  pub waves : List Wave
  pub held : ℕ → ℕ → ℕ → ℕ

-- a row of the file, all of it free
abbrev pub opening_row : StockRow → Row
opening_row row = record {
  location = row.location;
  article = row.article;
  on_hand = row.on_hand;
  free = row.on_hand;
  held = 0;
}

-- all stock is free, and there is no wave
abbrev pub opening_state : Opening → State
opening_state opening = record { rows = map opening_row opening.stock.rows; waves = []; held = λ wave order row. 0 }

-- the units that a wave of so many orders holds at a row
abbrev pub wave_held_at : State → ℕ → ℕ → ℕ → ℕ
wave_held_at state wave orders row = sum_below orders (λ order. state.held wave order row)

-- all units that a wave of so many orders holds
abbrev pub wave_held : State → ℕ → ℕ → ℕ
wave_held state wave orders = sum_below (length state.rows) (λ row. wave_held_at state wave orders row)
