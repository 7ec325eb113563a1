-- What is prepared for a command.
use Rattle.std.specs.Prelude.{◌≡◌, ℕ, ◌<◌, List, Some}
use Rattle.wp_model.specs.Opening.{Opening}
use Rattle.wp_model.specs.Tables.{row_number_from}
use Rattle.wp_model.specs.declared.command.Command.{Command}
use Rattle.wp_model.specs.declared.command.Command.TheVariants as command
use Rattle.wp_floor.specs.Floor.{order_number}
use Rattle.wp_floor.specs.MissingUnits.{HaveSpaceAt}
use Rattle.wp_floor.specs.NewWaves.{IsPrepared, size_fault, submit_of}
use Rattle.wp_floor.specs.declared.held.Claim.{Claim}
use Rattle.wp_machine.specs.declared.prepared.Prepared.{Prepared}
use Rattle.wp_machine.specs.declared.prepared.Prepared.TheVariants as prepared

-- a claim has the number of its order, and of the row that lies at its location
pub record KnowsPlaces (opening : Opening) (claim : Claim) : Type 0 where
  pub order : claim.number ≡ order_number opening claim.order
  pub row : row_number_from 0 opening.stock.rows claim.location ≡ claim.row

-- what is prepared for a command
abbrev pub IsPreparedFor : Opening → Command → Prepared → Type 0
IsPreparedFor opening asked (prepared.Refuse answer)
    = (name : List ℕ) × (orders : List (List ℕ)) × (asked ≡ command.Submit name orders)
    × (size_fault orders ≡ Some answer)
IsPreparedFor opening asked (prepared.Submit new) = (asked ≡ submit_of new) × IsPrepared opening new
IsPreparedFor opening asked (prepared.Allot name) = asked ≡ command.Allot name
IsPreparedFor opening asked (prepared.Release name) = asked ≡ command.Release name
IsPreparedFor opening asked (prepared.Cancel name) = asked ≡ command.Cancel name
IsPreparedFor opening asked (prepared.Pick name claim)
    = (asked ≡ command.Pick name claim.order claim.location claim.quantity) × KnowsPlaces opening claim
IsPreparedFor opening asked (prepared.Missing name claim rooms) =
    (asked ≡ command.Missing name claim.order claim.location claim.quantity) × KnowsPlaces opening claim
    × (0 < claim.quantity)
    × HaveSpaceAt opening.stock.rows claim.row claim.quantity rooms
IsPreparedFor opening asked (prepared.Receive location row article quantity) =
    (asked ≡ command.Receive location article quantity) × (row_number_from 0 opening.stock.rows location ≡ row)
