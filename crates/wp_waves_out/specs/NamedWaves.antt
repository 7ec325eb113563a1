-- Waves that are sent out under names.
use Rattle.std.specs.Prelude.{ℕ, IsTrue, List, map}
use Rattle.std.specs.List.{All}
use Rattle.wp_model.specs.History.{History, state_after}
use Rattle.wp_model.specs.Name.{is_name}
use Rattle.wp_model.specs.Warehouse.{Layout}
use Rattle.wp_model.specs.declared.command.Command.{Command}
use Rattle.wp_outgoing.specs.Names.{AreNamesOf, name_of}
use Rattle.wp_outgoing.specs.Sending.{AreDone, orders_of, sendings_of}
use Rattle.wp_outgoing.specs.WavesOut.{AreOut}
use Rattle.wp_outgoing.specs.declared.lines.WaveOut.{WaveOut}
use Rattle.wp_planner.specs.Released.{IsReleased}
use Rattle.wp_sending.specs.Sent.{sent_after}
use Rattle.wp_waves.specs.declared.open_orders.OpenOrder.{OpenOrder}
use Rattle.wp_waves_out.specs.Starts.{AreStarts}

-- the commands that send waves out under names
abbrev pub commands_of : List (List ℕ) → List (List OpenOrder) → List Command
commands_of names waves = sendings_of names (orders_of waves)

-- under whatever names waves may go out after a history, each of their commands is done
abbrev pub MayBeSent : History → List (List OpenOrder) → Type 0
MayBeSent history waves = (names : List (List ℕ)) → AreNamesOf (map name_of (state_after history).waves) waves names
    → AreDone history.opening (state_after history) (commands_of names waves)

-- by whatever commands, each wave that goes out after a history is one that can have gone out
abbrev pub SendsReleased : History → Type 0
SendsReleased history = (commands : List Command) → All (IsReleased history.opening) (sent_after history commands)

-- waves went out after a history under their names, and each has a start
pub record AreSentNamed (layout : Layout) (capacity : ℕ) (history : History) (waves : List (List OpenOrder))
    (out : List WaveOut) : Type 0 where
  pub names : List (List ℕ)
  pub named : AreNamesOf (map name_of (state_after history).waves) waves names
  pub are_names : All (λ name. IsTrue (is_name name)) names
  pub starts : List ℕ
  pub begun : AreStarts layout history.opening capacity (sent_after history (commands_of names waves)) starts
  pub told : AreOut names waves starts out
