-- A desk's work goes on by one command.
use Rattle.std.proofs.Common.{◌≡◌, ◌∙◌, sym, ap, subst, arith, ℕ, false, true≢false, List, [], ◌∷◌, ◌++◌, Result, Ok, Err, IfOk}
use Rattle.std.specs.Result.{is_err}
use Rattle.wp_desk.proofs.Parts.{asked_later, asked_more, refills_later, refills_more, waves_later, waves_more}
use Rattle.wp_desk.specs.Parts.{history_of, refills_by, waves_by}
use Rattle.wp_desk.specs.Work.{HasDone, IsAnswered, IsToldWithPlans, Seen}
use Rattle.wp_desk.specs.declared.told.Told.{Told}
use Rattle.wp_machine.specs.Outcome.{refill_in, released_in}
use Rattle.wp_machine.specs.declared.outcome.Outcome.{Outcome}
use Rattle.wp_machine.specs.declared.outcome.WaveHolds.{WaveHolds}
use Rattle.wp_model.specs.History.{History}
use Rattle.wp_model.specs.declared.command.Command.{Command}
use Rattle.wp_turn.proofs.Sums.{only-same}
use Rattle.wp_turn.specs.Calls.{IsAmong}

-- who stands alone is among those that it stands for
pub among_own : (desk : ℕ) → IsAmong desk (desk ∷ [])
among_own desk = omega (arith, only-same desk)

-- what holds of an `Ok` holds where there is no `Err`
pub if_no_err : {A E : Type 0} (r : Result A E) (P : Type 0) → is_err r ≡ false → IfOk r (λ _. P) → P
if_no_err (Ok value) P none if = if
if_no_err (Err fault) P none if = absurd (true≢false none)

module _ {T : Type 0} where
  -- a desk that has done commands has done one more once that is answered and what its step told is kept
  pub done_more : (start : History) (commands : List Command) (pass after : Seen) (command : Command) (outcome : Outcome) (old new : Told T)
      (Plans : WaveHolds → T → Type 0) → pass.callers ≡ pass.caller ∷ [] → HasDone start commands pass old → IsAnswered start pass after command outcome
      → IsToldWithPlans Plans old new outcome → HasDone start (commands ++ command ∷ []) after new
  done_more start commands pass after command outcome old new Plans alone done answered kept =
      let before = answered.before in
      let among : IsAmong pass.caller pass.callers = subst (IsAmong pass.caller) (sym alone) (among_own pass.caller) in
      subst (λ (p : Seen). HasDone start (commands ++ command ∷ []) p new) (sym answered.last) (record {
        asked = asked_more (history_of start before) pass.caller before commands command
            (asked_later pass.caller pass.calls before pass.callers commands answered.follow among done.asked);
        waves = kept.waves
            ∙ (ap (λ waves. waves ++ released_in outcome)
            (done.waves ∙ sym (waves_later start pass.caller pass.calls before pass.callers answered.follow among))
            ∙ (ap (λ o. waves_by start before pass.caller ++ released_in o) answered.tells ∙ sym (waves_more start pass.caller before command)));
        refills = kept.refills
            ∙ (ap (λ refills. refills ++ refill_in outcome)
            (done.refills ∙ sym (refills_later start pass.caller pass.calls before pass.callers answered.follow among))
            ∙ (ap (λ o. refills_by start before pass.caller ++ refill_in o) answered.tells ∙ sym (refills_more start pass.caller before command)));
      })
