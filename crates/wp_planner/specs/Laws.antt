-- What every wave that goes out keeps.
use Rattle.std.specs.Prelude.{◌≡◌, ℕ, Bool, List, Contains}
use Rattle.wp_model.specs.History.{History}
use Rattle.wp_model.specs.Opening.{Opening}
use Rattle.wp_model.specs.Sound.{IsSound}
use Rattle.wp_model.specs.State.{State, opening_state}
use Rattle.wp_model.specs.Step.{step}
use Rattle.wp_model.specs.Tables.{IsReadOpening}
use Rattle.wp_model.specs.declared.command.Command.TheVariants as command
use Rattle.wp_floor.specs.Floor.{AreSameRows}
use Rattle.wp_machine.specs.Outcome.{outcome_of, outcomes_from}
use Rattle.wp_machine.specs.declared.outcome.Outcome.TheVariants as outcome
use Rattle.wp_machine.specs.declared.outcome.WaveHolds.{WaveHolds}
use Rattle.wp_cert.specs.Bounds.{TellsBound}
use Rattle.wp_cert.specs.TextData.{certificate_text}
use Rattle.wp_planner.specs.Released.{IsReleased, IsServed}
use Rattle.wp_planner.specs.Sheets.{IsSheet}
use Rattle.wp_planner.specs.Terms.{Terms}
use Rattle.wp_planner.specs.declared.planner.WavePlan.{WavePlan}

-- a wave goes out filled: it is one that can have gone out, and each of its orders holds what its lines want together
pub record GoesOutFilled (opening : Opening) (out : WaveHolds) : Type 0 where
  pub released : IsReleased opening out
  pub served : IsServed opening out

-- a release that sends a wave out, in a sound state of an opening that was read, tells a wave that goes out filled
abbrev pub EachReleaseFills : Type 0
EachReleaseFills = (opening : Opening) (number : ℕ) (state : State) (name : List ℕ) (out : WaveHolds)
    → IsReadOpening opening → IsSound opening state
    → AreSameRows opening state.rows
    → outcome_of number state (command.Release name) (step opening state (command.Release name)) ≡ outcome.Released out
    → GoesOutFilled opening out

-- every wave that goes out in a history of an opening that was read goes out filled
abbrev pub EachWaveOutIsFilled : Type 0
EachWaveOutIsFilled = (history : History) (out : WaveHolds) → IsReadOpening history.opening
    → Contains (outcomes_from history.opening 0 (opening_state history.opening) history.entries) (outcome.Released out)
    → GoesOutFilled history.opening out

-- the certificate that a sheet has tells one bound, and it is the one in the sheet's first line
abbrev pub CheckedBoundsAreTold : Type 0
CheckedBoundsAreTold = (opening : Opening) (released : WaveHolds) (terms : Terms) (plan : WavePlan)
    (cancelled_later : Bool) (sheet : List ℕ) (bound : ℕ)
    → IsSheet opening released terms plan cancelled_later sheet
    → TellsBound plan.wave.layout (certificate_text plan.wave terms.capacity plan.planned.tree) bound
    → bound ≡ plan.planned.bound
