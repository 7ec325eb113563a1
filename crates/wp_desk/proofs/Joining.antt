-- A desk joins others that are back.
use Rattle.std.proofs.Common.{◌≡◌, ◌++◌, ◌∷◌, [], List, Result, Ok, Err, IfOk, IsOk, subst, sym, true≢false}
use Rattle.wp_desk.proofs.WholeDay.{done_with_one, planned_both}
use Rattle.wp_desk.specs.Work.{ArePlanned, HasDone, HaveDone, Seen}
use Rattle.wp_desk.specs.declared.told.Told.{Told}
use Rattle.wp_machine.specs.declared.outcome.WaveHolds.{WaveHolds}
use Rattle.wp_model.specs.History.{History, Script, script_of}
use Rattle.wp_model.specs.declared.memory.Memory.{Memory}

module _ {T : Type 0} where
  -- what was told to both is what was told to some, and then what was told to one
  abbrev pub AreBoth : Told T → Told T → Told T → Type 0
  AreBoth both some one = (both.plans.items ≡ some.plans.items ++ one.plans.items) × (both.refills.items ≡ some.refills.items ++ one.refills.items)

  pub both_done : (start : History) (scripts : List Script) (passes : List Seen) (pass : Seen) (some one both : Result (Told T) Memory)
      → IfOk both (λ b. IfOk some (λ s. IfOk one (λ o. AreBoth b s o))) → IfOk both (λ _. IsOk some × IsOk one)
      → IfOk some (HaveDone start scripts passes) → IfOk one (HasDone start (script_of scripts pass.caller) pass)
      → IfOk both (HaveDone start scripts (passes ++ pass ∷ []))
  both_done start scripts passes pass some one (Err lack) are there done had = tt
  both_done start scripts passes pass (Err lack) one (Ok both) are there done had = absurd (true≢false (sym there.0))
  both_done start scripts passes pass (Ok some) (Err lack) (Ok both) are there done had = absurd (true≢false (sym there.1))
  both_done start scripts passes pass (Ok some) (Ok one) (Ok both) are there done had =
      done_with_one start scripts passes pass some one both done had are.0 are.1

  pub both_planned : (Plans : WaveHolds → T → Type 0) (some one both : Result (Told T) Memory)
      → IfOk both (λ b. IfOk some (λ s. IfOk one (λ o. AreBoth b s o))) → IfOk both (λ _. IsOk some × IsOk one)
      → IfOk some (λ told. ArePlanned Plans told.plans.items) → IfOk one (λ told. ArePlanned Plans told.plans.items)
      → IfOk both (λ told. ArePlanned Plans told.plans.items)
  both_planned Plans some one (Err lack) are there planned more = tt
  both_planned Plans (Err lack) one (Ok both) are there planned more = absurd (true≢false (sym there.0))
  both_planned Plans (Ok some) (Err lack) (Ok both) are there planned more = absurd (true≢false (sym there.1))
  both_planned Plans (Ok some) (Ok one) (Ok both) are there planned more =
      subst (ArePlanned Plans) (sym are.0) (planned_both Plans some.plans.items one.plans.items planned more)
