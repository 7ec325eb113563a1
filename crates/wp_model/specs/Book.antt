-- The stock book: the rows as they stand, and the units that are held in them for the orders of waves.
use Rattle.std.specs.Prelude.{◌≡◌, ℕ, zero, suc, ◌-◌, ◌≤◌, ◌&&◌, ◌==◌, not, List, [], ◌∷◌, ◌++◌, length, if◌then◌else◌}
use Rattle.std.specs.Prelude.{slice_get, IfSome, Bool}
use Rattle.std.specs.List.{All, sum_by}
use Rattle.wp_model.specs.Sound.{IsBalanced}
use Rattle.wp_model.specs.State.{State}
use Rattle.wp_model.specs.declared.row.Hold.{Hold}
use Rattle.wp_model.specs.declared.row.Row.{Row}

-- units held for a wave, by its number: for one of its orders, by its place, at a row
pub record Holding : Type 0 where
  pub wave : ℕ
  pub order : ℕ
  pub row : ℕ
  pub quantity : ℕ

-- the rows in the order of their locations, and all that is held in them
pub record Book : Type 0 where
  pub rows : List Row
  pub holdings : List Holding

-- a hold of a wave
abbrev pub of_wave : ℕ → Hold → Holding
of_wave wave hold = record { wave = wave; order = hold.order; row = hold.row; quantity = hold.quantity }

-- a test of where units are held: for a wave, by its number, for one of its orders, by its place, and at a row
abbrev pub Where : Type 0
Where = ℕ → ℕ → ℕ → Bool

-- the units of a holding, where it passes a test
abbrev pub units_where : Where → Holding → ℕ
units_where passes holding = if passes holding.wave holding.order holding.row then holding.quantity else 0

-- for the order of a wave at a row
abbrev pub is_for : ℕ → ℕ → ℕ → Where
is_for wave order row w o r = (w == wave) && ((o == order) && (r == row))

-- for the wave at the row, whatever the order
abbrev pub is_for_wave : ℕ → ℕ → Where
is_for_wave wave row w o r = (w == wave) && (r == row)

-- for the wave, whatever the order and the row
abbrev pub is_of : ℕ → Where
is_of wave w o r = w == wave

-- a test, but for what is held for the wave
abbrev pub but_of : ℕ → Where → Where
but_of wave passes w o r = passes w o r && not (w == wave)

-- at the row
abbrev pub is_at : ℕ → Where
is_at row w o r = r == row

-- all units of a book that pass a test
abbrev pub held_where : Where → Book → ℕ
held_where passes book = sum_by (units_where passes) book.holdings

-- the units held for the order at a place of a wave, at a row
abbrev pub held_for : Book → ℕ → ℕ → ℕ → ℕ
held_for book wave order row = held_where (is_for wave order row) book

-- the units held for a wave at a row, over all its orders
abbrev pub held_for_wave : Book → ℕ → ℕ → ℕ
held_for_wave book wave row = held_where (is_for_wave wave row) book

-- the units held at a row, over all waves
abbrev pub held_in_row : Book → ℕ → ℕ
held_in_row book row = held_where (is_at row) book

-- the units of a wave's holds that pass a test
abbrev pub hold_units_where : Where → ℕ → Hold → ℕ
hold_units_where passes wave hold = units_where passes (of_wave wave hold)

-- the units of a hold, where it is for the order at the row; and where it is at the row
abbrev pub hold_for : ℕ → ℕ → Hold → ℕ
hold_for order row hold = if (hold.order == order) && (hold.row == row) then hold.quantity else 0

abbrev pub hold_at : ℕ → Hold → ℕ
hold_at row hold = if hold.row == row then hold.quantity else 0

-- the units of holds for an order at a row, and those at a row
abbrev pub units_for : List Hold → ℕ → ℕ → ℕ
units_for holds order row = sum_by (hold_for order row) holds

abbrev pub units_at : List Hold → ℕ → ℕ
units_at holds row = sum_by (hold_at row) holds

-- what is true of every book: what is on hand is free or held, what is held in a row is the sum of all that is held
-- there, and nothing is held elsewhere
pub record IsBook (book : Book) : Type 0 where
  pub rows : All IsBalanced book.rows
  pub held : (row : ℕ) → IfSome (slice_get book.rows row) (λ r. r.held ≡ held_in_row book row)
  pub nowhere_else : (row : ℕ) → length book.rows ≤ row → held_in_row book row ≡ 0

-- a hold for an order at a row, where it is of any unit
abbrev pub hold_of_any : ℕ → ℕ → ℕ → List Hold
hold_of_any order row units = if units == 0 then [] else record { order = order; row = row; quantity = units } ∷ []

-- the holds of one order, at so many rows, wherever it has units
abbrev pub order_held_list : ℕ → ℕ → (ℕ → ℕ) → List Hold
order_held_list order zero units = []
order_held_list order (suc row) units = order_held_list order row units ++ hold_of_any order row (units row)

-- the holds of so many orders at so many rows, by order and then by row, wherever units are held
abbrev pub held_list : ℕ → ℕ → (ℕ → ℕ → ℕ) → List Hold
held_list zero rows held = []
held_list (suc order) rows held = held_list order rows held ++ order_held_list order rows (held order)

-- what a wave of so many orders holds in a state beyond what it held in one before
abbrev pub held_more : State → State → ℕ → ℕ → List Hold
held_more before after number orders = held_list orders (length after.rows)
    (λ order row. after.held number order row - before.held number order row)
