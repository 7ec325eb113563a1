-- What a day gives once its desks are back.
use Rattle.std.specs.Prelude.{◌≡◌, Result, IfOk, IsOk}
use Rattle.std.specs.List.Sorted.{IsPermutation}
use Rattle.wp_desk.specs.GoingOn.{new_entries, refills_after, released_after}
use Rattle.wp_desk.specs.Work.{ArePlanned, planned_waves}
use Rattle.wp_desk.specs.declared.day_run.DayRun.{DayRun}
use Rattle.wp_desk.specs.declared.told.Told.{Told}
use Rattle.wp_machine.specs.declared.outcome.WaveHolds.{WaveHolds}
use Rattle.wp_model.specs.History.{History}
use Rattle.wp_model.specs.declared.memory.Memory.{Memory}

module _ {T : Type 0} where
  -- a day has a machine, and what its desks were told, for which there was memory: the waves that new entries sent out,
  -- with plans that are related to them so, and their refills, both in the order of the entries, where these were told
  -- in some order
  pub record HasDay (Plans : WaveHolds → T → Type 0) (history : History) (told : Result (Told T) Memory)
      (day : DayRun T) : Type 0 where
    pub there : IsOk told
    pub machine : day.machine ≡ history
    pub waves : (start : History)
        → IfOk told (λ told. IsPermutation (released_after start (new_entries start history))
        (planned_waves told.plans.items))
        → planned_waves day.plans.items ≡ released_after start (new_entries start day.machine)
    pub planned : ArePlanned Plans day.plans.items
    pub refills : (start : History)
        → IfOk told (λ told. IsPermutation (refills_after start (new_entries start history)) told.refills.items)
        → day.refills.items ≡ refills_after start (new_entries start day.machine)
