-- What a machine answers.
use Rattle.std.specs.Prelude.{◌≡◌, ℕ, ◌≤◌, ◌<◌, ◌^◌, length}
use Rattle.wp_model.specs.History.{History, IsLegal, state_after}
use Rattle.wp_model.specs.Opening.{Opening}
use Rattle.wp_model.specs.Step.{step}
use Rattle.wp_model.specs.declared.command.Command.{Command}
use Rattle.wp_floor.specs.Floor.{HasStepped, IsFloor, state_of, wave_count}
use Rattle.wp_floor.specs.declared.floor.Floor.{Floor}
use Rattle.wp_machine.specs.Outcome.{outcome_of}
use Rattle.wp_machine.specs.declared.outcome.Answer.{Answer}

-- a command was answered as the entry with a number, with all that its step tells
pub record IsAnswer (opening : Opening) (number : ℕ) (command : Command) (old new : Floor)
    (answer : Answer) : Type 0 where
  pub stepped : HasStepped opening command old new answer.reply
  pub numbered : answer.number ≡ number
  pub outcome : answer.outcome ≡ outcome_of number (state_of old) command (step opening (state_of old) command)

-- what a machine keeps is the state after a legal history
pub record IsMachine (history : History) (kept : Floor) : Type 0 where
  pub legal : IsLegal history
  pub floor : IsFloor history.opening kept
  pub state : state_of kept ≡ state_after history
  pub waves : wave_count kept ≤ length history.entries
  pub few : length history.entries < 2 ^ 32
