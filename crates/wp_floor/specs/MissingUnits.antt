-- Units that are missing, and what is held in their place.
use Rattle.std.specs.Prelude.{◌≡◌, ℕ, ◌+◌, ◌-◌, ◌<◌, ◌≤◌, ⊤, List, [], ◌∷◌, length, Option, Some, slice_get}
use Rattle.wp_allot.specs.Wants.{holds_at_most, most_holds, wanted_places}
use Rattle.wp_allot.specs.declared.want.Want.{Want}
use Rattle.wp_book.specs.Calls.{KeepsOthers}
use Rattle.wp_book.specs.Room.{Content}
use Rattle.wp_model.specs.Book.{Book, held_for, held_list, held_more}
use Rattle.wp_model.specs.Change.{change_rows, hold_units, share}
use Rattle.wp_model.specs.Demand.{free_units}
use Rattle.wp_model.specs.Opening.{Opening}
use Rattle.wp_model.specs.State.{State, Wave}
use Rattle.wp_model.specs.Step.{Stepped, one_demand, wave_from}
use Rattle.wp_model.specs.Sums.{sum_below}
use Rattle.wp_model.specs.declared.reply.Reply.{Reply}
use Rattle.wp_model.specs.declared.reply.Reply.TheVariants as reply
use Rattle.wp_model.specs.declared.row.Row.{Row}
use Rattle.wp_model.specs.declared.row.StockRow.{StockRow}
use Rattle.wp_floor.specs.Floor.{HasAnswered, HaveSpace}
use Rattle.wp_floor.specs.declared.held.HeldUnits.{HeldUnits}
use Rattle.wp_floor.specs.declared.holding.Rooms.{Rooms}
use Rattle.wp_floor.specs.declared.refilling.Missed.{Missed}
use Rattle.wp_floor.specs.declared.refilling.Missed.TheVariants as missed
use Rattle.wp_floor.specs.declared.waves.KeptWave.{KeptWave}

-- so many units of an article, wanted for one order
abbrev pub want_of : ℕ → ℕ → Want
want_of article quantity = record { order = 0; article = article; quantity = quantity }

-- empty room for what may be held in place of so many missing units of an article, and for the list of it
abbrev pub HaveRefillSpace : List Row → ℕ → ℕ → Rooms → Type 0
HaveRefillSpace rows article quantity rooms = HaveSpace (most_holds rows (want_of article quantity ∷ [])) rooms

-- the same of the article of a row, where there is one
abbrev pub HaveRoomsAt : List Row → Option ℕ → ℕ → Rooms → Type 0
HaveRoomsAt rows row quantity rooms = (number : ℕ) (r : Row) → row ≡ Some number → slice_get rows number ≡ Some r
    → HaveRefillSpace rows r.article quantity rooms

-- how many holds so many units of the article of a stock's row take at most
abbrev pub IsRefillSize : List StockRow → ℕ → ℕ → ℕ → Type 0
IsRefillSize rows number quantity size = (r : StockRow) → slice_get rows number ≡ Some r
    → size ≡ holds_at_most (wanted_places rows (want_of r.article quantity ∷ [])) (want_of r.article quantity ∷ [])

-- empty room for what may be held in place of so many units of the article of a stock's row, where there is one
abbrev pub HaveSpaceAt : List StockRow → Option ℕ → ℕ → Rooms → Type 0
HaveSpaceAt rows row quantity rooms = (number : ℕ) (r : StockRow) → row ≡ Some number → slice_get rows number ≡ Some r
    → HaveSpace (holds_at_most (wanted_places rows (want_of r.article quantity ∷ [])) (want_of r.article quantity ∷ []))
    rooms

-- what holds of the list where a loss is refilled
abbrev pub IfRefilled : Missed → (Content → Type 0) → Type 0
IfRefilled (missed.Refilled room) holds = holds room
IfRefilled (missed.Answered answer) holds = ⊤

-- what holds of the reply where a loss is answered
abbrev pub IfAnswered : Missed → (Reply → Type 0) → Type 0
IfAnswered (missed.Refilled room) holds = ⊤
IfAnswered (missed.Answered answer) holds = holds answer

-- what is held for orders in place of so many lost units: the order that lost them wants as many, and takes none from
-- the row where they were
abbrev pub share_elsewhere : List Row → HeldUnits → ℕ → ℕ → ℕ → ℕ
share_elsewhere rows lost quantity = share (one_demand lost.order lost.article quantity) rows (Some lost.row)

-- other rows of the article cover the lost units, as many of theirs went from free to held for a wave, and room has
-- the list of them
pub record IsHeldElsewhere (number : ℕ) (lost : HeldUnits) (quantity : ℕ) (old new : Book)
    (room : Content) : Type 0 where
  pub covered : quantity ≤ free_units old.rows lost.article (Some lost.row)
  pub rows : (orders : ℕ) → lost.order < orders → new.rows ≡ change_rows
      (λ row. hold_units (sum_below orders (λ order. share_elsewhere old.rows lost quantity order row))) 0 old.rows
  pub held : (order row : ℕ) → held_for new number order row ≡ held_for old number order row
      + share_elsewhere old.rows lost quantity order row
  pub others : KeepsOthers number old new
  pub listed : (orders : ℕ) → lost.order < orders
      → room.holds ≡ held_list orders (length old.rows) (share_elsewhere old.rows lost quantity)

-- room has all that a wave of so many orders holds beyond what it held before
abbrev pub ListsMore : Book → Book → ℕ → ℕ → Content → Type 0
ListsMore old new number orders room = room.holds ≡ held_list orders (length new.rows)
    (λ order row. held_for new number order row - held_for old number order row)

-- the step of a wave writes so many units off and holds as many elsewhere, and room has the list of what is held in
-- their place
pub record HasRefilled (opening : Opening) (stepped : Stepped) (old new : Book) (waves : List Wave) (number : ℕ)
    (was kept : KeptWave) (quantity : ℕ)
    (room : Content) : Type 0 where
  pub answers : HasAnswered opening stepped old new waves number was kept (reply.Refilled quantity)
  pub listed : ListsMore old new number (length was.orders) room

-- room has all that the wave of a name holds in a state beyond what it held in one before
abbrev pub TellsRefill : State → State → List ℕ → Content → Type 0
TellsRefill before after name room = (f : ℕ × Wave) × (wave_from 0 after.waves name ≡ Some f)
    × (room.holds ≡ held_more before after f.0 (length f.1.orders))
