-- A day has no more waves that go out than commands.
use Rattle.std.proofs.Common.{ℕ, ◌+◌, ◌≤◌, List, [], ◌∷◌, Option, ap, arith, length, length-append}
use Rattle.std.proofs.lemmas.List.{length-map}
use Rattle.std.specs.List.{flat_map}
use Rattle.wp_desk.specs.declared.day_run.DayRun.{DayRun}
use Rattle.wp_machine.specs.Outcome.{outcome_of, outcomes_from, released_in}
use Rattle.wp_machine.specs.declared.outcome.Outcome.{Outcome}
use Rattle.wp_machine.specs.declared.outcome.Outcome.TheVariants as outcome
use Rattle.wp_desk.specs.GoingOn.{new_entries}
use Rattle.wp_model.specs.History.{History, Script, state_after}
use Rattle.wp_model.specs.Opening.{Opening}
use Rattle.wp_model.specs.State.{State}
use Rattle.wp_model.specs.Step.{step}
use Rattle.wp_model.specs.Tables.{AreReadScripts}
use Rattle.wp_model.specs.Warehouse.{Layout}
use Rattle.wp_model.specs.declared.entry.Entry.{Entry}
use Rattle.wp_planner.specs.Sent.{Sent}
use Rattle.wp_planner.specs.Terms.{Terms}
use Rattle.wp_planner.specs.declared.planner.WavePlan.{WavePlan}
use Rattle.wp_top.proofs.PlanJournals.{history_count}
use Rattle.wp_top.specs.Planned.{IsToldOf}
use Rattle.wp_top.specs.Runs.{IsHistoryOf}

-- a step sends out one wave at most
one_out : (told : Outcome) → length (released_in told) ≤ 1
one_out outcome.Plain = omega arith
one_out (outcome.Released released) = omega arith
one_out (outcome.Refilled refill) = omega arith

-- so entries send out no more than they are
few_out : (opening : Opening) (number : ℕ) (state : State) (entries : List Entry)
    → length (flat_map released_in (outcomes_from opening number state entries)) ≤ length entries
few_out opening number state [] = omega arith
few_out opening number state (entry ∷ entries) =
    let next = step opening state entry.command in
    let told = outcome_of number state entry.command next in
    let more = flat_map released_in (outcomes_from opening (number + 1) next.state entries) in
    omega (arith, length-append (released_in told) more, one_out told, few_out opening (number + 1) next.state entries)

-- a day of scripts that were read sends out 10,000 waves at most
pub few_waves : (layout : Layout) (terms : Terms) (opening : Opening) (scripts : List Script) (start : History) (day : DayRun (Option WavePlan))
    → AreReadScripts scripts → IsHistoryOf opening scripts start day.machine → IsToldOf layout terms start day → length day.plans.items ≤ 10000
few_waves layout terms opening scripts start day read answers told =
    let history = day.machine in
    omega (
      arith,
      length-map day.plans.items (λ (s : Sent). s.wave),
      ap length told.waves,
      few_out start.opening (length start.entries) (state_after start) (new_entries start history),
      history_count opening scripts start history read answers,
      read.most,
    )
