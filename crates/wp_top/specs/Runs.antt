-- What a job comes to.
use Rattle.std.specs.Prelude.{◌≡◌, ◌⊎◌, ◌++◌, ℕ, ⊤, List, Option, Err, codes, length}
use Rattle.std.specs.List.{All, sum_by}
use Rattle.wp_lengths.specs.Waves.{WavePicks}
use Rattle.wp_cert.specs.Bounds.{TellsBound}
use Rattle.wp_cert.specs.Refusals.{IsFirstBroken}
use Rattle.wp_cert.specs.Text.{Tells, certificate_said}
use Rattle.wp_cert.specs.Walks.{NoWalksAreShorter}
use Rattle.wp_cert.specs.declared.tree.CertFault.{CertFault}
use Rattle.wp_cert.specs.declared.tree.Tree.{Tree}
use Rattle.wp_desk.specs.GoingOn.{GoesOnFrom, new_entries}
use Rattle.wp_journal.specs.Journals.{IsJournalOf, Shows}
use Rattle.wp_make.specs.Texts.{made_texts}
use Rattle.wp_model.specs.History.{History, IsLegal, Script, opened, part_of, script_of}
use Rattle.wp_model.specs.Journal.{line, number_after_space}
use Rattle.wp_model.specs.Opening.{Opening}
use Rattle.wp_model.specs.Served.{StockGoesWhereItCovers}
use Rattle.wp_model.specs.Sound.{EachStateIsSound}
use Rattle.wp_model.specs.Warehouse.{Layout}
use Rattle.wp_model.specs.declared.entry.Entry.{Entry}
use Rattle.wp_top.specs.Sections.{output_of, refills_told, waves_out}
use Rattle.wp_top.specs.Sheets.{AreSheets, terms_of}
use Rattle.wp_top.specs.Stores.{DiskCourse, GoesOnFromStore, Held, IsRefusedStore, IsStored}
use Rattle.wp_top.specs.Summaries.{AreGoodPlans, AreWholePlans, made_files, made_terms, size_of, summary_of}
use Rattle.wp_top.specs.Texts.{Said, Say, opening_with}
use Rattle.wp_top.specs.declared.complaint.Finding.{Finding}
use Rattle.wp_top.specs.declared.complaint.Finding.TheVariants as finding
use Rattle.wp_planner.specs.Crews.{IsCrewFor, crew_text, day_batches}
use Rattle.wp_planner.specs.Roots.{IsRootFor}
use Rattle.wp_planner.specs.Terms.{Terms}
use Rattle.wp_planner.specs.declared.crew.DayCrew.{DayCrew}
use Rattle.wp_planner.specs.declared.planner.WavePlan.{WavePlan}
use Rattle.wp_words.specs.Words.{AuditNames, JobNames, MakeNumbers, PlanNames, audit, check, make, plan}

-- how many commands scripts have together
abbrev pub command_count : List Script → ℕ
command_count scripts = sum_by (λ script. length script.commands) scripts

-- What is promised of a day's history, in the words in which it is promised: it is one history of a single thread, from
-- this opening,
pub record IsHistoryOf (opening : Opening) (scripts : List Script) (start history : History) : Type 0 where
  pub starts : history.opening ≡ opening
  pub legal : IsLegal history
  -- that goes on from the one with which the day began, and holds after that one every desk's commands once and in
  -- order;
  pub goes_on : GoesOnFrom start history
  pub parts : (desk : ℕ) → part_of desk (new_entries start history) ≡ script_of scripts desk
  -- on hand is always free plus held;
  pub sound : EachStateIsSound history
  -- a wave gets stock exactly when free stock covers it
  pub stock : StockGoesWhereItCovers history

-- entries are the new ones of a history that goes on from the store with the commands of these scripts
pub record AreNewOf (held : Held) (opening : Opening) (scripts : List Script) (entries : List Entry) : Type 0 where
  pub start : History
  pub from : GoesOnFromStore held opening (command_count scripts) start
  pub history : History
  pub answers : IsHistoryOf opening scripts start history
  pub new : entries ≡ new_entries start history

-- a day that was run: the history with which it began, the whole history, and the plans of the waves that its new
-- entries release
pub record Day : Type 0 where
  pub start : History
  pub history : History
  pub plans : List WavePlan

-- What a plan promises of its day where it ends with status 0, in the words in which it is promised:
pub record IsPlan (layout : Layout) (opening : Opening) (scripts : List Script) (terms : Terms)
    (day : Day) : Type 0 where
  -- it is one history of this opening and of these scripts;
  pub answers : IsHistoryOf opening scripts day.start day.history
  -- each wave that a new entry releases has a good plan: every released order lies in one batch within capacity; no
  -- batching costs less than the bound
  pub planned : AreGoodPlans layout day.history.opening terms (waves_out day.start day.history) day.plans

-- each plan of a day has a bracket of its linear bound where the terms ask for one
abbrev pub AreBracketed : Terms → Day → Type 0
AreBracketed terms day = All (λ (plan : WavePlan). IsRootFor terms plan.wave plan.root) day.plans

-- the text of a day:
pub record IsTextOf (terms : Terms) (day : Day) (output : List ℕ) : Type 0 where
  -- each wave has its sheet, on which every tour is a shortest closed walk, with what three usual rules would walk
  -- where the terms say so;
  pub sheets : List ℕ
  pub printed : AreSheets day.history terms (waves_out day.start day.history) day.plans sheets
  -- where the terms have pickers, all batches of the sheets are dealt to them, and the longest load is near the least
  -- that it can be;
  pub crew : Option DayCrew
  pub dealt : IsCrewFor terms.pickers (day_batches (waves_out day.start day.history) day.plans) crew
  -- this is the text: the whole journal, the sheets, the refills of new entries, the crew, the stock after it
  pub is : output ≡ output_of day.history sheets (refills_told day.start day.history) (crew_text crew)

-- the output of a plan: the text of a day of what the files say, for carts of the units that the words say, which is as
-- promised; where the words say so each plan has a bracket of its linear bound, and the day goes on from the store and
-- is kept there
pub record IsPlanOutput (disk : DiskCourse) (names : PlanNames) (said : Said) (output : List ℕ) : Type 0 where
  pub day : Day
  pub promised : IsPlan said.layout (opening_with said.opening names.units) said.scripts (terms_of names) day
  pub text : IsTextOf (terms_of names) day output
  pub brackets : AreBracketed (terms_of names) day
  pub stored : IsStored disk names.store (opening_with said.opening names.units)
      (command_count said.scripts) day.start day.history

-- What a make promises where it ends with status 0, in the words in which it is promised.
pub record IsSummary (numbers : MakeNumbers) (output : List ℕ) : Type 0 where
  -- the made files say a day, and this is one history of its opening and of its scripts;
  pub day : Said
  pub says : Say (made_files (made_texts numbers.number (size_of numbers))) day
  pub history : History
  pub answers : IsHistoryOf day.opening day.scripts (opened day.opening) history
  -- each released wave has a good plan
  pub plans : List WavePlan
  pub planned : AreWholePlans day.layout history.opening (made_terms numbers)
      (waves_out (opened day.opening) history) plans
  -- the output is the summary of this history and of these plans
  pub is : output ≡ summary_of numbers history plans

-- the line of a journal that is right, with so many entries
abbrev pub audit_line : ℕ → List ℕ
audit_line entries = line (codes "audit" ++ number_after_space entries ++ codes " entries")

-- the output of an audit: the journal begins with that of a legal history of the opening, for carts of the units that
-- the words say, and this is how many entries it has
pub record IsAudit (names : AuditNames) (said : Said) (output : List ℕ) : Type 0 where
  pub entries : ℕ
  pub shows : IsJournalOf (opening_with said.opening names.units) said.journal entries
  pub is : output ≡ audit_line entries

-- the line of a bound
abbrev pub bound_line : ℕ → List ℕ
bound_line bound = line (codes "bound" ++ number_after_space bound)

-- the text of a certificate tells a tree with this bound, and however its wave is put into batches within the capacity,
-- carts walk no less
pub record ShowsBound (layout : Layout) (text : List ℕ) (bound : ℕ) : Type 0 where
  pub tree : TellsBound layout text bound
  pub least : NoWalksAreShorter tree.wave tree.capacity bound

-- it tells a wave of the layout, a capacity and a tree whose first broken rule is this fault
pub record TellsBroken (layout : Layout) (text : List ℕ) (fault : CertFault) : Type 0 where
  pub wave : WavePicks
  pub capacity : ℕ
  pub tree : Tree
  pub told : Tells layout text wave capacity tree
  pub broken : IsFirstBroken wave capacity tree fault

-- it tells no certificate of the layout, and this is why, at node 0
pub record TellsNone (layout : Layout) (text : List ℕ) (fault : CertFault) : Type 0 where
  pub refused : certificate_said layout text ≡ Err fault.why
  pub first : fault.node ≡ 0

-- a certificate is refused with this fault: its text tells none, or the tree that it tells breaks a rule
abbrev pub IsRefusedCertificate : Layout → List ℕ → CertFault → Type 0
IsRefusedCertificate layout text fault = TellsNone layout text fault ⊎ TellsBroken layout text fault

-- the output of a check: the certificate shows a bound, and this is its line
pub record IsBound (said : Said) (output : List ℕ) : Type 0 where
  pub bound : ℕ
  pub shows : ShowsBound said.layout said.certificate bound
  pub is : output ≡ bound_line bound

-- a job goes on from the store, and adds to it
abbrev pub UsesStore : JobNames → Type 0
UsesStore (plan names) = names.store ≡ 1
UsesStore other = ⊥

-- entries are new ones of such a job, by what its files say
abbrev pub AreNewFor : Held → JobNames → Said → List Entry → Type 0
AreNewFor held (plan names) said entries = AreNewOf held (opening_with said.opening names.units) said.scripts entries
AreNewFor held other said entries = ⊥

-- the output of a job, by what its files say and the disk tells
abbrev pub ComesTo : DiskCourse → JobNames → Said → List ℕ → Type 0
ComesTo disk (plan names) said output = IsPlanOutput disk names said output
ComesTo disk (check names) said output = IsBound said output
ComesTo disk (audit names) said output = IsAudit names said output
ComesTo disk (make numbers) said output = IsSummary numbers output

-- what a job holds against its files isn't right, and this is found
abbrev pub IsWrong : Held → JobNames → Said → Finding → Type 0
IsWrong held (plan names) said (finding.Store found) = (names.store ≡ 1)
    × IsRefusedStore held (opening_with said.opening names.units) (command_count said.scripts) found
IsWrong held (check names) said (finding.Certificate fault) = IsRefusedCertificate said.layout said.certificate fault
IsWrong held (audit names) said (finding.Journal fault)
    = Shows (opening_with said.opening names.units) said.journal (Err fault)
IsWrong held other said found = ⊥

-- it is right
abbrev pub IsRight : Held → JobNames → Said → Type 0
IsRight held (plan names) said = names.store ≡ 1 → (start : History)
    × GoesOnFromStore held (opening_with said.opening names.units) (command_count said.scripts) start
IsRight held (check names) said = (bound : ℕ) × TellsBound said.layout said.certificate bound
IsRight held (audit names) said = (entries : ℕ)
    × IsJournalOf (opening_with said.opening names.units) said.journal entries
IsRight held (make numbers) said = ⊤
