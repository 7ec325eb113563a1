-- Waves that go out.
use Rattle.std.specs.Prelude.{◌≡◌, ℕ, ⊤, List, length, Some}
use Rattle.wp_book.specs.Room.{Content}
use Rattle.wp_model.specs.Book.{Book, held_for, held_list}
use Rattle.wp_model.specs.Opening.{Opening}
use Rattle.wp_model.specs.State.{State, Wave}
use Rattle.wp_model.specs.Step.{release, wave_from}
use Rattle.wp_model.specs.declared.reply.Reply.{Reply}
use Rattle.wp_model.specs.declared.reply.Reply.TheVariants as reply
use Rattle.wp_floor.specs.Floor.{HasAnswered, state_at, state_in, wave_of}
use Rattle.wp_floor.specs.declared.releasing.Released.{Released}
use Rattle.wp_floor.specs.declared.releasing.Released.TheVariants as released
use Rattle.wp_floor.specs.declared.waves.HeldOrders.{HeldOrders}
use Rattle.wp_floor.specs.declared.waves.KeptWave.{KeptWave}

-- room has all that a wave of so many orders holds
abbrev pub ListsHolds : Book → ℕ → ℕ → Content → Type 0
ListsHolds book number orders room = room.holds ≡ held_list orders (length book.rows) (held_for book number)

-- what holds of the sheet where a wave went out
abbrev pub IfOut : Released → (HeldOrders → Type 0) → Type 0
IfOut (released.Out sheet) holds = holds sheet
IfOut (released.Refused answer) holds = ⊤

-- what holds of the reply where a release is refused
abbrev pub IfRefused : Released → (Reply → Type 0) → Type 0
IfRefused (released.Out sheet) holds = ⊤
IfRefused (released.Refused answer) holds = holds answer

-- a wave went out, with the sheet of all that it holds
pub record HasReleased (opening : Opening) (old new : Book) (waves : List Wave) (number : ℕ) (was kept : KeptWave)
    (sheet : HeldOrders) : Type 0 where
  pub answers : HasAnswered opening (release opening (state_at old waves) number (wave_of was) (state_in was.stage)) old
      new waves number was kept
      reply.Released
  pub copied : sheet.orders ≡ was.orders
  pub listed : ListsHolds new number (length was.orders) sheet.room

-- a sheet has the orders of the wave of a name, and all that it holds
abbrev pub TellsHolds : State → List ℕ → HeldOrders → Type 0
TellsHolds state name sheet = (f : ℕ × Wave) × (wave_from 0 state.waves name ≡ Some f)
    × (sheet.orders ≡ f.1.orders) × (sheet.room.holds
    ≡ held_list (length f.1.orders) (length state.rows) (state.held f.0))
