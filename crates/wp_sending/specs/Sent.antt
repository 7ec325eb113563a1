-- What a desk asks for that sends waves out, and the waves that go out then.
use Rattle.std.specs.Prelude.{ℕ, ◌+◌, List, [], ◌∷◌, ◌++◌, length, map}
use Rattle.wp_machine.specs.Machine.{asked_all}
use Rattle.wp_machine.specs.Outcome.{outcome_of, released_in}
use Rattle.wp_machine.specs.declared.asking.Asking.{Asking}
use Rattle.wp_machine.specs.declared.outcome.WaveHolds.{WaveHolds}
use Rattle.wp_model.specs.History.{History, state_after}
use Rattle.wp_model.specs.Opening.{Opening}
use Rattle.wp_model.specs.State.{State}
use Rattle.wp_model.specs.Step.{step}
use Rattle.wp_model.specs.declared.command.Command.{Command}

-- a desk asks for a command
abbrev pub asking_by : ℕ → Command → Asking
asking_by desk command = record { desk = desk; command = command }

-- the history in which a desk asks for these commands, one after the other, after another history
abbrev pub asked_after : History → ℕ → List Command → History
asked_after history desk commands = asked_all history (map (asking_by desk) commands)

-- the waves that go out, with all that they hold, where these commands are stepped one after the other from a state on,
-- and the first of them is the entry of this number
abbrev pub sent_from : Opening → ℕ → State → List Command → List WaveHolds
sent_from opening number state [] = []
sent_from opening number state (first ∷ others) =
    released_in (outcome_of number state first (step opening state first))
    ++ sent_from opening (number + 1) (step opening state first).state others

-- the waves that go out by these commands after a history
abbrev pub sent_after : History → List Command → List WaveHolds
sent_after history commands = sent_from history.opening (length history.entries) (state_after history) commands
