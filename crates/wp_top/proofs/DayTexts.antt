-- The text of a day, section by section.
use Rattle.std.proofs.Common.{◌≡◌, ◌∙◌, refl, sym, ap, subst, ℕ, List, ◌++◌, Option, append_assoc}
use Rattle.std.specs.Prelude.{codes}
use Rattle.wp_desk.specs.declared.day_run.DayRun.{DayRun}
use Rattle.wp_machine.specs.declared.outcome.Refill.{Refill}
use Rattle.wp_machine.specs.declared.outcome.WaveHolds.{WaveHolds}
use Rattle.wp_model.specs.History.{History, state_after}
use Rattle.wp_model.specs.Journal.{journal, line}
use Rattle.wp_model.specs.Warehouse.{Layout}
use Rattle.wp_planner.specs.Crews.{IsCrewFor, crew_text, day_batches}
use Rattle.wp_planner.specs.Terms.{Terms}
use Rattle.wp_planner.specs.declared.crew.DayCrew.{DayCrew}
use Rattle.wp_planner.specs.declared.planner.WavePlan.{WavePlan}
use Rattle.wp_top.proofs.SectionTexts.{any_sheets}
use Rattle.wp_top.proofs.WavesOut.{waves_are}
use Rattle.wp_planner.specs.Sent.{plans_of, sent_waves}
use Rattle.wp_top.specs.Planned.{HasCrew, IsToldOf, day_told}
use Rattle.wp_top.specs.Runs.{IsTextOf}
use Rattle.wp_top.specs.Sections.{output_of, refills_and_end, refills_section, stock_section}
use Rattle.wp_top.specs.Sheets.{AreSheets}

-- the journal, then the sheets, and then all that comes after them
in_order : (history : History) (sheets : List ℕ) (told : List Refill) (crew : List ℕ)
    → journal history.entries ++ (sheets ++ refills_and_end history told crew) ≡ output_of history sheets told crew
in_order history sheets told crew =
    let first = journal history.entries in
    let refills = refills_section history.opening.stock told in
    let stock = stock_section history.opening.stock (state_after history).rows in
    let last = line (codes "end") in
    sym (append_assoc (((first ++ sheets) ++ refills) ++ crew) stock last
    ∙ (append_assoc ((first ++ sheets) ++ refills) crew (stock ++ last)
    ∙ (append_assoc (first ++ sheets) refills (crew ++ (stock ++ last))
    ∙ append_assoc first sheets (refills ++ (crew ++ (stock ++ last))))))

-- this is the text of a day
pub text_is : (layout : Layout) (terms : Terms) (start : History) (day : DayRun (Option WavePlan)) (crew : Option DayCrew) (sheets text : List ℕ)
    → IsToldOf layout terms start day → HasCrew terms day crew
    → AreSheets day.machine terms (sent_waves day.plans.items) (plans_of day.plans.items) sheets
    → text ≡ journal day.machine.entries ++ (sheets ++ refills_and_end day.machine day.refills.items (crew_text crew))
    → IsTextOf terms (day_told start day) text
text_is layout terms start day crew sheets text told dealt are is =
    let history = day.machine in
    let plans = plans_of day.plans.items in
    let out = told.waves ∙ waves_are start history in
    record {
      sheets = sheets;
      printed = subst (λ (waves : List WaveHolds). AreSheets history terms waves plans sheets) out are;
      crew = crew;
      dealt = subst (λ (waves : List WaveHolds). IsCrewFor terms.pickers (day_batches waves plans) crew) out dealt;
      is = is ∙ in_order history sheets day.refills.items (crew_text crew)
          ∙ ap (λ (refills : List Refill). output_of history sheets refills (crew_text crew)) told.refills;
    }

-- some text of a day begins with the journal
pub any_text : (layout : Layout) (terms : Terms) (start : History) (day : DayRun (Option WavePlan)) (crew : Option DayCrew) → IsToldOf layout terms start day
    → HasCrew terms day crew → (more : List ℕ) × IsTextOf terms (day_told start day) (journal day.machine.entries ++ more)
any_text layout terms start day crew told dealt =
    let sheets = any_sheets layout day.machine terms day.plans.items told.planned in
    (sheets.0 ++ refills_and_end day.machine day.refills.items (crew_text crew), text_is layout terms start day crew sheets.0 _ told dealt sheets.1 refl)
