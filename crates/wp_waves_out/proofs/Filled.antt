-- Waves that are sent out can have gone out.
use Rattle.std.proofs.Common.{◌≡◌, refl, ℕ, ◌+◌, List, [], ◌∷◌, length, All}
use Rattle.std.proofs.lemmas.List.Elements.{All-append, All-cons, All-nil}
use Rattle.wp_dispatch.proofs.RowArticles.{rows_after}
use Rattle.wp_floor.proofs.Floors.{is_opening}
use Rattle.wp_floor.proofs.SameRows.{step_keeps_rows}
use Rattle.wp_floor.specs.Floor.{AreSameRows}
use Rattle.wp_machine.specs.Outcome.{outcome_of, released_in}
use Rattle.wp_machine.specs.declared.outcome.Outcome.{Outcome}
use Rattle.wp_machine.specs.declared.outcome.Outcome.TheVariants as outcome
use Rattle.wp_machine.specs.declared.outcome.WaveHolds.{WaveHolds}
use Rattle.wp_model.proofs.Sound.{step_keeps_sound}
use Rattle.wp_model.specs.History.{History, state_after}
use Rattle.wp_model.specs.Opening.{IsOpening, Opening}
use Rattle.wp_model.specs.Sound.{IsSound}
use Rattle.wp_model.specs.State.{State}
use Rattle.wp_model.specs.Step.{step}
use Rattle.wp_model.specs.Tables.{IsReadOpening}
use Rattle.wp_model.specs.declared.command.Command.{Command}
use Rattle.wp_planner.proofs.Outgoing.{step_is_filled}
use Rattle.wp_planner.specs.Released.{IsReleased}
use Rattle.wp_sending.specs.Sent.{sent_from}
use Rattle.wp_waves_out.specs.NamedWaves.{SendsReleased}

-- the wave that an outcome tells
each_told : (opening : Opening) (told : Outcome) → ((out : WaveHolds) → told ≡ outcome.Released out → IsReleased opening out)
    → All (IsReleased opening) (released_in told)
each_told opening (outcome.Released out) is = All-cons (IsReleased opening) out [] (is out refl) (All-nil (IsReleased opening))
each_told opening outcome.Plain is = All-nil (IsReleased opening)
each_told opening (outcome.Refilled refill) is = All-nil (IsReleased opening)

-- each wave that commands send out in a sound state, one after the other
each_sent : (opening : Opening) (number : ℕ) (state : State) (commands : List Command) → IsOpening opening → IsSound opening state
    → AreSameRows opening state.rows → All (IsReleased opening) (sent_from opening number state commands)
each_sent opening number state [] is sound rows = All-nil (IsReleased opening)
each_sent opening number state (first ∷ others) is sound rows =
    let stepped = step opening state first in
    let told = outcome_of number state first stepped in
    All-append (IsReleased opening) (released_in told) (sent_from opening (number + 1) stepped.state others)
    (each_told opening told (λ out same. (step_is_filled opening number state first out is sound rows same).released))
    (each_sent opening (number + 1) stepped.state others is (step_keeps_sound opening state first is sound) (step_keeps_rows opening state first rows))

-- so it is after a history
pub sends_released : (history : History) → IsReadOpening history.opening → IsSound history.opening (state_after history) → SendsReleased history
sends_released history read sound commands =
    each_sent history.opening (length history.entries) (state_after history) commands (is_opening history.opening read) sound (rows_after history)
