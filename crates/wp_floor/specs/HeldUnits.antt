-- Where units are held for an order of a wave.
use Rattle.std.specs.Prelude.{◌≡◌, ℕ, ◌<◌, ◌≤◌, IsTrue, List, length, [], Option, Some, None, Result, Ok, Err}
use Rattle.std.specs.Prelude.{option_map, slice_get}
use Rattle.std.specs.List.{All}
use Rattle.wp_model.specs.Book.{Book, held_for}
use Rattle.wp_model.specs.Limits.{most_wave_orders}
use Rattle.wp_model.specs.Opening.{Opening, is_known_order}
use Rattle.wp_model.specs.Step as step
use Rattle.wp_model.specs.State.{Wave}
use Rattle.wp_model.specs.declared.location.Location.{Location}
use Rattle.wp_model.specs.declared.reply.Reply.{Reply}
use Rattle.wp_model.specs.declared.reply.Reply.TheVariants as reply
use Rattle.wp_model.specs.declared.reply.WaveState.{WaveState}
use Rattle.wp_model.specs.declared.reply.WaveState.TheVariants as wave
use Rattle.wp_model.specs.declared.row.Row.{Row}
use Rattle.wp_floor.specs.Floor.{IsNumbered, order_number, state_at, state_in, wave_of}
use Rattle.wp_floor.specs.declared.held.Claim.{Claim}
use Rattle.wp_floor.specs.declared.held.HeldUnits.{HeldUnits}
use Rattle.wp_floor.specs.declared.waves.KeptWave.{KeptWave}

-- what was found is what is held
abbrev pub held_of : HeldUnits → step.Held
held_of found = record { order = found.order; row = found.row; article = found.article; units = found.units }

-- the number of the row at a location, None where there is none
abbrev pub IsRowAt : List Row → Location → Option ℕ → Type 0
IsRowAt rows location row = option_map (λ (found : ℕ × Row). found.0) (step.row_from 0 rows location) ≡ row

-- a wave has the numbers of its orders, all of which are orders of the opening, and a claim has that of its order
pub record KnowsOrder (opening : Opening) (kept : KeptWave) (claim : Claim) : Type 0 where
  pub numbered : IsNumbered opening kept
  pub known : All (λ order. IsTrue (is_known_order opening.orders order)) kept.orders
  pub most : length kept.orders ≤ most_wave_orders
  pub number : claim.number ≡ order_number opening claim.order

-- what a wave holds for an order at a location
abbrev pub held_there : Book → ℕ → KeptWave → List ℕ → Location → Option step.Held
held_there book number kept order location = step.held_for (state_at book []) number (wave_of kept) order location

-- units that are enough, or the refusal of a pick or a loss
abbrev pub IsEnoughHeld : Option step.Held → Location → ℕ → Result HeldUnits Reply → Type 0
IsEnoughHeld held location quantity (Ok found) = (held ≡ Some (held_of found)) × (quantity ≤ found.units)
IsEnoughHeld None location quantity (Err answer) = answer ≡ reply.NotHeld location
IsEnoughHeld (Some held) location quantity (Err answer) = (answer ≡ reply.TooMuch held.units) × (held.units < quantity)

-- what the row's number, its article and its units are, or that there are no units
abbrev pub IsHeldAt : Book → ℕ → ℕ → ℕ → Option HeldUnits → Type 0
IsHeldAt book number order row found = (r : Row) → slice_get book.rows row ≡ Some r
    → option_map held_of found ≡ step.any_held
    (record { order = order; row = row; article = r.article; units = held_for book number order row })

-- the refusal of a wave that isn't released
abbrev pub unless_released : WaveState → Option Reply
unless_released wave.Released = None
unless_released wave.Submitted = Some (reply.WrongState wave.Submitted)
unless_released wave.Allotted = Some (reply.WrongState wave.Allotted)
unless_released wave.Cancelled = Some (reply.WrongState wave.Cancelled)
unless_released wave.Done = Some (reply.WrongState wave.Done)

-- units that a released wave holds for an order at a location, and that are enough
pub record IsClaimed (book : Book) (number : ℕ) (kept : KeptWave) (order : List ℕ) (location : Location) (quantity : ℕ)
    (found : HeldUnits) : Type 0 where
  pub released : state_in kept.stage ≡ wave.Released
  pub held : held_there book number kept order location ≡ Some (held_of found)
  pub enough : quantity ≤ found.units

-- why a pick or a loss is refused, whatever would be done
abbrev pub IsClaimRefused : Book → ℕ → KeptWave → List ℕ → Location → ℕ → Reply → Type 0
IsClaimRefused book number kept order location quantity answer =
    (waves : List Wave) (change : step.Held → step.Stepped) → step.at_released (state_at book waves) number
    (wave_of kept) order location quantity change (state_in kept.stage) ≡ step.refuse (state_at book waves) answer
