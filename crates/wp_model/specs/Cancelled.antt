-- Waves that are cancelled after they went out.
use Rattle.std.specs.Prelude.{◌≡◌, ℕ, ◌<◌, Bool, true, false, List, Some, slice_get}
use Rattle.std.specs.Option.{option_map_or}
use Rattle.wp_model.specs.State.{State}
use Rattle.wp_model.specs.Step.{wave_from}
use Rattle.wp_model.specs.declared.command.Command.TheVariants as command
use Rattle.wp_model.specs.declared.entry.Entry.{Entry}
use Rattle.wp_model.specs.declared.reply.Reply.TheVariants as reply
use Rattle.wp_model.specs.declared.reply.WaveState.{WaveState}
use Rattle.wp_model.specs.declared.reply.WaveState.TheVariants as wave

-- a wave in this state is cancelled
abbrev pub is_cancelled : WaveState → Bool
is_cancelled wave.Cancelled = true
is_cancelled other = false

-- the wave of a name is cancelled in a state
abbrev pub is_cancelled_in : State → List ℕ → Bool
is_cancelled_in state name = option_map_or (λ found. is_cancelled found.1.state) (wave_from 0 state.waves name) false

-- the wave of a name goes out by the entry with a number
pub record GoesOutAt (entries : List Entry) (number : ℕ) (name : List ℕ) : Type 0 where
  pub entry : Entry
  pub there : slice_get entries number ≡ Some entry
  pub asks : entry.command ≡ command.Release name
  pub done : entry.reply ≡ reply.Released

-- it is cancelled by a later entry
pub record IsCancelledAfter (entries : List Entry) (number : ℕ) (name : List ℕ) : Type 0 where
  pub later : ℕ
  pub entry : Entry
  pub after : number < later
  pub there : slice_get entries later ≡ Some entry
  pub asks : entry.command ≡ command.Cancel name
  pub done : entry.reply ≡ reply.Cancelled
