-- What moves units and waves.
use Rattle.std.specs.Prelude.{ℕ, ◌+◌, ◌-◌, ◌&&◌, ◌==◌, List, [], ◌∷◌, Option, if◌then◌else◌, length, slice_get}
use Rattle.std.specs.Prelude.{slice_set}
use Rattle.std.specs.Option.{option_map_or}
use Rattle.wp_model.specs.Demand.{offer_at}
use Rattle.wp_model.specs.Overlap.{overlap}
use Rattle.wp_model.specs.State.{State, Wave, wave_held, wave_held_at}
use Rattle.wp_model.specs.Sums.{sum_below}
use Rattle.wp_model.specs.declared.reply.WaveState.TheVariants as wave
use Rattle.wp_model.specs.declared.row.Row.{Row}

-- units of a row go from free to held
abbrev pub hold_units : ℕ → Row → Row
hold_units units row = record row { free = row.free - units; held = row.held + units }

-- units of a row go from held to free
abbrev pub free_held_units : ℕ → Row → Row
free_held_units units row = record row { free = row.free + units; held = row.held - units }

-- held units of a row are gone
abbrev pub take_units : ℕ → Row → Row
take_units units row = record row { on_hand = row.on_hand - units; held = row.held - units }

-- units come to a row
abbrev pub receive_units : ℕ → Row → Row
receive_units units row = record row { on_hand = row.on_hand + units; free = row.free + units }

-- the rows, each changed by its number, where the first has this one
abbrev pub change_rows : (ℕ → Row → Row) → ℕ → List Row → List Row
change_rows change place [] = []
change_rows change place (row ∷ rows) = change place row ∷ change_rows change (place + 1) rows

-- one row changed
abbrev pub at_place : ℕ → (Row → Row) → ℕ → Row → Row
at_place row change place old = if place == row then change old else old

-- how many units an order takes from a row, where `demand` has what is wanted by article and order
abbrev pub share : (ℕ → ℕ → ℕ) → List Row → Option ℕ → ℕ → ℕ → ℕ
share demand rows except order row =
    option_map_or (λ r. overlap (demand r.article) (offer_at rows r.article except) order row) (slice_get rows row) 0

-- what is held by other waves stays, and a wave holds this
abbrev pub with_held : State → ℕ → (ℕ → ℕ → ℕ) → ℕ → ℕ → ℕ → ℕ
with_held state wave held w order row = if w == wave then held order row else state.held w order row

-- stock is held for a wave of so many orders, by overlap
abbrev pub hold : (ℕ → ℕ → ℕ) → Option ℕ → ℕ → ℕ → State → State
hold demand except wave orders state = record state {
  rows = change_rows (λ row. hold_units (sum_below orders (λ order. share demand state.rows except order row))) 0
      state.rows;
  held = with_held state wave (λ order row. state.held wave order row + share demand state.rows except order row);
}

-- all that a wave of so many orders holds goes back to free
abbrev pub give_back : ℕ → ℕ → State → State
give_back wave orders state = record state {
  rows = change_rows (λ row. free_held_units (wave_held_at state wave orders row)) 0 state.rows;
  held = with_held state wave (λ order row. 0);
}

-- units that are held for a wave's order at a row are gone
abbrev pub take : ℕ → ℕ → ℕ → ℕ → State → State
take wave order row units state = record state {
  rows = change_rows (at_place row (take_units units)) 0 state.rows;
  held = with_held state wave (λ o r. if (o == order) && (r == row) then state.held wave o r - units
      else state.held wave o r);
}

-- units come to a row
abbrev pub receive : ℕ → ℕ → State → State
receive row units state = record state { rows = change_rows (at_place row (receive_units units)) 0 state.rows }

-- the wave with a number is now this one
abbrev pub put_wave : ℕ → Wave → State → State
put_wave number w state = record state { waves = slice_set state.waves number w }

-- a wave that holds nothing more is done
abbrev pub settle : ℕ → Wave → State → State
settle number w state = put_wave number (if wave_held state number (length w.orders) == 0
    then record w { state = wave.Done } else w) state
