-- The output of a day is written section by section.
use Rattle.std.proofs.Common.{◌≡◌, refl, subst, ℕ, List, [], ◌++◌, Option, length}
use Rattle.std.specs.Prelude.{codes}
use Rattle.wp_desk.specs.declared.day_run.DayRun.{DayRun}
use Rattle.wp_model.specs.History.{History}
use Rattle.wp_model.specs.Journal.{entry_line, journal, line}
use Rattle.wp_model.specs.Warehouse.{Layout}
use Rattle.wp_model.specs.declared.entry.Entry.{Entry}
use Rattle.wp_outside.specs.Outside.{SinkTold}
use Rattle.wp_outside.specs.declared.sink.SinkFault.{SinkFault}
use Rattle.wp_outside.proofs.Steps.{Fails-before, Fails-then, Writes-then}
use Rattle.wp_outside.specs.Sections.{IsSection}
use Rattle.wp_outside.specs.Writing.{Fails, Writes}
use Rattle.wp_planner.specs.Crews.{crew_text}
use Rattle.wp_planner.specs.Terms.{Terms}
use Rattle.wp_planner.specs.declared.crew.DayCrew.{DayCrew}
use Rattle.wp_planner.specs.declared.planner.WavePlan.{WavePlan}
use Rattle.wp_top.proofs.DayTexts.{any_text, text_is}
use Rattle.wp_top.proofs.SectionTexts.{lines_fail, lines_then, lines_then_fail, sheets_are}
use Rattle.wp_planner.specs.Sent.{Sent, plans_of, sent_waves}
use Rattle.wp_top.specs.Planned.{HasCrew, IsSheetAt, IsToldOf, day_told}
use Rattle.wp_top.specs.Sections.{IsTextAt, refills_and_end}
use Rattle.wp_top.specs.Sheets.{AreSheets}
use Rattle.wp_top.specs.Runs.{IsTextOf}

-- sheets fail, with more behind them
pub sheets_fail : (history : History) (terms : Terms) (listed sent : List Sent) (count : ℕ) (more waited : List ℕ) (fault : SinkFault) (old new : SinkTold)
    → count ≡ length listed → listed ≡ sent
    → (text : List ℕ) × IsSection [] count (IsSheetAt history terms listed) [] text × Fails fault old new (waited ++ text)
    → (sheets : List ℕ) × AreSheets history terms (sent_waves sent) (plans_of sent) sheets × Fails fault old new (waited ++ (sheets ++ more))
sheets_fail history terms listed sent count more waited fault old new all same (text, said, fails) = (
  text,
  subst (λ (s : List Sent). AreSheets history terms (sent_waves s) (plans_of s) text) same (sheets_are history terms listed count text all said),
  Fails-before fault old new waited text more fails,
)

-- sheets are written, and then more
pub sheets_then : (history : History) (terms : Terms) (listed sent : List Sent) (count : ℕ) (more waited between waits : List ℕ) (old mid new : SinkTold)
    → count ≡ length listed → listed ≡ sent
    → (text : List ℕ) × IsSection [] count (IsSheetAt history terms listed) [] text × Writes old mid waited between text
    → Writes mid new between waits more
    → (sheets : List ℕ) × AreSheets history terms (sent_waves sent) (plans_of sent) sheets × Writes old new waited waits (sheets ++ more)
sheets_then history terms listed sent count more waited between waits old mid new all same (text, said, writes) rest = (
  text,
  subst (λ (s : List Sent). AreSheets history terms (sent_waves s) (plans_of s) text) same (sheets_are history terms listed count text all said),
  Writes-then old mid new waited between waits text more writes rest,
)

-- they are written, and then more fails
pub sheets_then_fail : (history : History) (terms : Terms) (listed sent : List Sent) (count : ℕ) (more waited between : List ℕ) (fault : SinkFault)
    (old mid new : SinkTold) → count ≡ length listed → listed ≡ sent
    → (text : List ℕ) × IsSection [] count (IsSheetAt history terms listed) [] text × Writes old mid waited between text
    → Fails fault mid new (between ++ more)
    → (sheets : List ℕ) × AreSheets history terms (sent_waves sent) (plans_of sent) sheets × Fails fault old new (waited ++ (sheets ++ more))
sheets_then_fail history terms listed sent count more waited between fault old mid new all same (text, said, writes) rest = (
  text,
  subst (λ (s : List Sent). AreSheets history terms (sent_waves s) (plans_of s) text) same (sheets_are history terms listed count text all said),
  Fails-then fault old mid new waited between text more writes rest,
)

-- the texts of entries
abbrev Lines : List Entry → ℕ → List ℕ → Type 0
Lines entries count text = IsSection (line (codes "journal")) count (IsTextAt entry_line entries) (line (codes "end journal")) text

-- the journal of a day fails, and some text of the day begins with it
pub day_fails : (layout : Layout) (terms : Terms) (start : History) (day : DayRun (Option WavePlan)) (crew : Option DayCrew) (entries : List Entry) (count : ℕ)
    (waited : List ℕ) (fault : SinkFault)
    (old new : SinkTold) → IsToldOf layout terms start day → HasCrew terms day crew → entries ≡ day.machine.entries → count ≡ length entries → waited ≡ []
    → (text : List ℕ) × Lines entries count text × Fails fault old new (waited ++ text)
    → (text : List ℕ) × IsTextOf terms (day_told start day) text × Fails fault old new text
day_fails layout terms start day crew entries count waited fault old new told dealt all count_is none section =
    let whole = any_text layout terms start day crew told dealt in
    let fails = lines_fail entry_line entries count (line (codes "journal")) (line (codes "end journal")) (journal entries) whole.0 waited fault old new
    count_is refl section in (
      journal day.machine.entries ++ whole.0,
      whole.1,
      subst (λ (es : List Entry). Fails fault old new (journal es ++ whole.0)) all
          (subst (λ (w : List ℕ). Fails fault old new (w ++ (journal entries ++ whole.0))) none fails),
    )

-- it is written, and then all that comes after it
pub day_then : (layout : Layout) (terms : Terms) (start : History) (day : DayRun (Option WavePlan)) (crew : Option DayCrew) (entries : List Entry) (count : ℕ)
    (waited between : List ℕ)
    (old mid new : SinkTold) → IsToldOf layout terms start day → HasCrew terms day crew → entries ≡ day.machine.entries → count ≡ length entries → waited ≡ []
    → (text : List ℕ) × Lines entries count text × Writes old mid waited between text
    → (sheets : List ℕ) × AreSheets day.machine terms (sent_waves day.plans.items) (plans_of day.plans.items) sheets
    × Writes mid new between [] (sheets ++ refills_and_end day.machine day.refills.items (crew_text crew))
    → (text : List ℕ) × IsTextOf terms (day_told start day) text × Writes old new [] [] text
day_then layout terms start day crew entries count waited between old mid new told dealt all count_is none section (sheets, are, rest) =
    let more = sheets ++ refills_and_end day.machine day.refills.items (crew_text crew) in
    let writes = lines_then entry_line entries count (line (codes "journal")) (line (codes "end journal")) (journal entries) more waited between [] old mid new
    count_is refl section rest in (
      journal day.machine.entries ++ more,
      text_is layout terms start day crew sheets _ told dealt are refl,
      subst (λ (es : List Entry). Writes old new [] [] (journal es ++ more)) all
          (subst (λ (w : List ℕ). Writes old new w [] (journal entries ++ more)) none writes),
    )

-- it is written, and then something fails
pub day_then_fails : (layout : Layout) (terms : Terms) (start : History) (day : DayRun (Option WavePlan)) (crew : Option DayCrew) (entries : List Entry)
    (count : ℕ) (waited between : List ℕ)
    (fault : SinkFault) (old mid new : SinkTold) → IsToldOf layout terms start day → HasCrew terms day crew → entries ≡ day.machine.entries
    → count ≡ length entries → waited ≡ []
    → (text : List ℕ) × Lines entries count text × Writes old mid waited between text
    → (sheets : List ℕ) × AreSheets day.machine terms (sent_waves day.plans.items) (plans_of day.plans.items) sheets
    × Fails fault mid new (between ++ (sheets ++ refills_and_end day.machine day.refills.items (crew_text crew)))
    → (text : List ℕ) × IsTextOf terms (day_told start day) text × Fails fault old new text
day_then_fails layout terms start day crew entries count waited between fault old mid new told dealt all count_is none section (sheets, are, rest) =
    let more = sheets ++ refills_and_end day.machine day.refills.items (crew_text crew) in
    let fails = lines_then_fail entry_line entries count (line (codes "journal")) (line (codes "end journal")) (journal entries) more waited between fault
    old mid new count_is refl section rest in (
      journal day.machine.entries ++ more,
      text_is layout terms start day crew sheets _ told dealt are refl,
      subst (λ (es : List Entry). Fails fault old new (journal es ++ more)) all
          (subst (λ (w : List ℕ). Fails fault old new (w ++ (journal entries ++ more))) none fails),
    )

-- where nothing is written some text of the day isn't
pub day_unwritten : (layout : Layout) (terms : Terms) (start : History) (day : DayRun (Option WavePlan)) (crew : Option DayCrew) (fault : SinkFault)
    (told : SinkTold) → IsToldOf layout terms start day → HasCrew terms day crew
    → ((text : List ℕ) → Fails fault told told text) → (text : List ℕ) × IsTextOf terms (day_told start day) text × Fails fault told told text
day_unwritten layout terms start day crew fault told is dealt none =
    let whole = any_text layout terms start day crew is dealt in
    (journal day.machine.entries ++ whole.0, whole.1, none (journal day.machine.entries ++ whole.0))
