-- What a day tells, the plans of its waves, and its crew.
use Rattle.std.specs.Prelude.{◌≡◌, ℕ, List, Option, Some, slice_get}
use Rattle.std.specs.List.{All}
use Rattle.wp_desk.specs.GoingOn.{GoesOnFrom, new_entries, released_after}
use Rattle.wp_desk.specs.declared.day_run.DayRun.{DayRun}
use Rattle.wp_top.specs.Runs.{Day, IsHistoryOf, command_count}
use Rattle.wp_top.specs.Sections.{refills_told}
use Rattle.wp_top.specs.Stores.{DiskCourse, IsStored}
use Rattle.wp_top.specs.declared.day.DayPlans.{DayPlans}
use Rattle.wp_top.specs.Sheets.{IsSheetOf}
use Rattle.wp_machine.specs.declared.outcome.WaveHolds.{WaveHolds}
use Rattle.wp_model.specs.History.{History, Script}
use Rattle.wp_model.specs.Opening.{Opening}
use Rattle.wp_model.specs.Warehouse.{Layout}
use Rattle.wp_planner.specs.Crews.{IsCrewFor, day_batches}
use Rattle.wp_planner.specs.Sent.{ArePlanned, Sent, plans_of, sent_waves}
use Rattle.wp_planner.specs.Terms.{Terms}
use Rattle.wp_planner.specs.declared.crew.DayCrew.{DayCrew}
use Rattle.wp_planner.specs.declared.planner.WavePlan.{WavePlan}

-- the sheet of one that was sent
abbrev pub IsSentSheet : History → Terms → Sent → List ℕ → Type 0
IsSentSheet history terms sent sheet = (plan : WavePlan) × (sent.plan ≡ Some plan)
    × IsSheetOf history terms sent.wave plan sheet

-- the sheet of the one at a place
abbrev pub IsSheetAt : History → Terms → List Sent → ℕ → List ℕ → Type 0
IsSheetAt history terms sent number sheet
    = (one : Sent) × (slice_get sent number ≡ Some one) × IsSentSheet history terms one sheet

-- each has what may be made of its wave
pub record AreMadeBy (makes : WaveHolds → Option WavePlan → Type 0) (sent : List Sent) : Type 0 where
  pub each : All (λ s. makes s.wave s.plan) sent

-- what a day tells is what the steps of its new entries tell, after the history with which it began, and each wave that
-- went out has a good plan
pub record IsToldOf (layout : Layout) (terms : Terms) (start : History) (day : DayRun (Option WavePlan)) : Type 0 where
  pub goes_on : GoesOnFrom start day.machine
  pub waves : sent_waves day.plans.items ≡ released_after start (new_entries start day.machine)
  pub planned : ArePlanned layout day.machine.opening terms day.plans.items
  pub refills : day.refills.items ≡ refills_told start day.machine

-- the day that began with a history and tells this
abbrev pub day_told : History → DayRun (Option WavePlan) → Day
day_told start day = record { start = start; history = day.machine; plans = plans_of day.plans.items }

-- and where the terms have pickers, all batches of a day are dealt to them
abbrev pub HasCrew : Terms → DayRun (Option WavePlan) → Option DayCrew → Type 0
HasCrew terms day crew = IsCrewFor terms.pickers
    (day_batches (sent_waves day.plans.items) (plans_of day.plans.items)) crew

-- a day that is planned and was run over a disk: it began as the words say, answers the scripts, tells what its new
-- entries tell, its batches are dealt, and where the words have a store all its new entries are there
pub record IsDayOver (disk : DiskCourse) (store : ℕ) (layout : Layout) (opening : Opening) (terms : Terms)
    (scripts : List Script) (day : DayPlans) : Type 0 where
  pub start : History
  pub stored : IsStored disk store opening (command_count scripts) start day.run.machine
  pub answers : IsHistoryOf opening scripts start day.run.machine
  pub told : IsToldOf layout terms start day.run
  pub dealt : HasCrew terms day.run day.crew
