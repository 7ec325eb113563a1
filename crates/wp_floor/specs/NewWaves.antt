-- Waves that desks want to submit.
use Rattle.std.specs.Prelude.{◌≡◌, ℕ, ◌<◌, ◌≤◌, ◌==◌, nat_lt, false, List, length, Option, Some, None, if◌then◌else◌}
use Rattle.wp_model.specs.Opening.{Opening}
use Rattle.wp_model.specs.Limits.{most_wave_orders}
use Rattle.wp_model.specs.declared.command.Command.{Command}
use Rattle.wp_model.specs.declared.command.Command.TheVariants as command
use Rattle.wp_model.specs.declared.reply.Reply.{Reply}
use Rattle.wp_model.specs.declared.reply.Reply.TheVariants as reply
use Rattle.wp_floor.specs.Floor.{AreNeedsOf, IsNumbered}
use Rattle.wp_floor.specs.declared.submitting.NewWave.{NewWave}
use Rattle.wp_floor.specs.declared.waves.KeptWave.{KeptWave}
use Rattle.wp_floor.specs.declared.waves.Needs.{Needs}
use Rattle.wp_floor.specs.declared.waves.Stage.TheVariants as stage

-- why orders can't make a wave whatever was submitted before: there are none, or too many
abbrev pub size_fault : List (List ℕ) → Option Reply
size_fault orders =
    if length orders == 0 then Some reply.NoOrders
    else if nat_lt most_wave_orders (length orders) then Some (reply.WaveFull (length orders))
    else None

-- a wave of which nothing was done, of some orders and not too many
pub record IsNewWave (opening : Opening) (kept : KeptWave) : Type 0 where
  pub needs : Needs
  pub submitted : kept.stage ≡ stage.Submitted needs
  pub unpicked : kept.picked ≡ false
  pub some : 0 < length kept.orders
  pub most : length kept.orders ≤ most_wave_orders
  pub numbered : IsNumbered opening kept
  pub has : AreNeedsOf opening kept.orders needs

-- the command that a wave was prepared for
abbrev pub submit_of : NewWave → Command
submit_of new = command.Submit new.name new.needs.orders

-- the wave that was prepared, once it is submitted
abbrev pub wave_of_new : NewWave → KeptWave
wave_of_new new = record {
  name = new.name;
  orders = new.needs.orders;
  numbers = new.numbers;
  stage = stage.Submitted new.needs;
  picked = false;
}

-- a wave was prepared with what it needs
abbrev pub IsPrepared : Opening → NewWave → Type 0
IsPrepared opening new = IsNewWave opening (wave_of_new new)
