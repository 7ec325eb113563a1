-- What the calls of a book ask for and do.
use Rattle.std.specs.Prelude.{◌≡◌, ◌≢◌, ℕ, ◌+◌, ◌-◌, ◌<◌, ◌≤◌, ◌&&◌, ◌==◌, List, length, map, if◌then◌else◌, slice_get}
use Rattle.std.specs.Prelude.{IfSome, []}
use Rattle.std.specs.List.{All}
use Rattle.wp_model.specs.Book.{Book, held_for, held_for_wave, units_at, units_for}
use Rattle.wp_model.specs.Change.{at_place, change_rows, free_held_units, hold_units, receive_units, take_units}
use Rattle.wp_model.specs.Opening.{Stock}
use Rattle.wp_model.specs.State.{opening_row}
use Rattle.wp_model.specs.declared.row.Hold.{Hold}

-- a book in which all stock is free
abbrev pub free_book : Stock → Book
free_book stock = record { rows = map opening_row stock.rows; holdings = [] }

-- holds are at rows of the book, and of each row they want no more than is free
pub record CanHold (book : Book) (holds : List Hold) : Type 0 where
  pub rows : All (λ (hold : Hold). hold.row < length book.rows) holds
  pub free : (row : ℕ) → IfSome (slice_get book.rows row) (λ r. units_at holds row ≤ r.free)

-- nothing that is held for another wave has changed
abbrev pub KeepsOthers : ℕ → Book → Book → Type 0
KeepsOthers wave old new = (w order row : ℕ) → w ≢ wave → held_for new w order row ≡ held_for old w order row

-- the units of holds went from free to held, for a wave
pub record HasHeld (wave : ℕ) (holds : List Hold) (old new : Book) : Type 0 where
  pub rows : new.rows ≡ change_rows (λ row. hold_units (units_at holds row)) 0 old.rows
  pub held : (order row : ℕ) → held_for new wave order row ≡ held_for old wave order row + units_for holds order row
  pub others : KeepsOthers wave old new

-- all that was held for a wave is free again
pub record HasGivenBack (wave : ℕ) (old new : Book) : Type 0 where
  pub rows : new.rows ≡ change_rows (λ row. free_held_units (held_for_wave old wave row)) 0 old.rows
  pub held : (order row : ℕ) → held_for new wave order row ≡ 0
  pub others : KeepsOthers wave old new

-- units that were held for an order of a wave at a row are gone
pub record HasTaken (wave order row units : ℕ) (old new : Book) : Type 0 where
  pub rows : new.rows ≡ change_rows (at_place row (take_units units)) 0 old.rows
  pub held : (o r : ℕ) → held_for new wave o r
      ≡ (if (o == order) && (r == row) then held_for old wave o r - units else held_for old wave o r)
  pub others : KeepsOthers wave old new

-- units came to a row
pub record HasReceived (row units : ℕ) (old new : Book) : Type 0 where
  pub rows : new.rows ≡ change_rows (at_place row (receive_units units)) 0 old.rows
  pub held : (wave order r : ℕ) → held_for new wave order r ≡ held_for old wave order r

-- nothing is held for a wave
abbrev pub HoldsNone : Book → ℕ → Type 0
HoldsNone book wave = (order row : ℕ) → held_for book wave order row ≡ 0
