-- What waves come to that words ask for.
use Rattle.std.specs.Prelude.{◌≡◌, ℕ, ◌+◌, List, Option, Some, None, Err, ◌⊎◌, ◌<◌}
use Rattle.wp_journal.specs.Journals.{Shows}
use Rattle.wp_journal.specs.declared.verdict.AuditFault.{AuditFault}
use Rattle.wp_model.specs.History.{History}
use Rattle.wp_model.specs.Opening.{Opening}
use Rattle.wp_model.specs.Warehouse.{Layout}
use Rattle.wp_outside.specs.Outside.{FilesTold}
use Rattle.wp_top.specs.Ends.{among}
use Rattle.wp_top.specs.Stops.{IsRead, opening_files}
use Rattle.wp_top.specs.Texts.{IsHeld, text_in}
use Rattle.wp_top.specs.declared.complaint.Finding.{Finding}
use Rattle.wp_top.specs.declared.complaint.Finding.TheVariants as finding
use Rattle.wp_top.specs.declared.input.Input.{Input}
use Rattle.wp_top.specs.declared.input.Input.TheVariants as input
use Rattle.wp_top.specs.declared.input.Refusal.{Refusal}
use Rattle.wp_waves.specs.declared.open_orders.OpenOrder.{OpenOrder}
use Rattle.wp_waves_out.specs.SentOut.{AreSentOut}
use Rattle.wp_waves_out.specs.declared.sent_out.WaveTerms.{WaveTerms}
use Rattle.wp_waves_top.specs.Texts.{AreTables, IsDayBefore, IsOpenFile, open_in, open_orders}
use Rattle.wp_waves_top.specs.declared.complaint.OpenRefusal.{OpenRefusal}
use Rattle.wp_waves_words.specs.Words.{WavesNames}

-- what words ask of waves
abbrev pub wave_terms : WavesNames → WaveTerms
wave_terms names = record { wave = names.wave; most = names.most; desk = names.desk; effort = names.effort }

-- one read where a file is named
abbrev pub reads_if : Option (List ℕ) → ℕ
reads_if None = 0
reads_if (Some name) = 1

-- how many reads the tables take with the open file, and with the journal
abbrev pub reads_with_open : WavesNames → ℕ
reads_with_open names = 3 + reads_if names.open_file

abbrev pub all_reads : WavesNames → ℕ
all_reads names = reads_with_open names + reads_if names.journal

-- the output of waves: each file was read once and none is refused, the journal is right, and this tells the open
-- orders that are sent out after it
pub record IsWavesOutput (names : WavesNames) (old new : FilesTold) (output : List ℕ) : Type 0 where
  pub layout : Layout
  pub opening : Opening
  pub tables : AreTables (IsHeld old.holds) names layout opening
  pub listed : Option (List OpenOrder)
  pub open_file : IsOpenFile old.holds opening.orders names.open_file listed
  pub history : History
  pub before : IsDayBefore old.holds opening names.journal history
  pub sent : AreSentOut layout names.capacity history (wave_terms names) (open_orders history listed) output
  pub reads : new.reads ≡ old.reads + all_reads names

-- the tables were read and aren't refused, and this is the name of the open file, which was the last that was read
pub record IsAtOpen (names : WavesNames) (old new : FilesTold) (Why : Opening → List ℕ → Type 0) : Type 0 where
  pub layout : Layout
  pub opening : Opening
  pub tables : AreTables (IsHeld old.holds) names layout opening
  pub name : List ℕ
  pub named : names.open_file ≡ Some name
  pub reads : new.reads ≡ old.reads + 4
  pub why : Why opening name

-- the open file is refused
abbrev pub IsRefusedOpen : WavesNames → FilesTold → FilesTold → OpenRefusal → Type 0
IsRefusedOpen names old new why =
    IsAtOpen names old new (λ opening name. (text : List ℕ) × IsHeld old.holds name text
    × (open_in opening.orders text ≡ Err why))

-- or it couldn't be read
abbrev pub IsOpenRisen : WavesNames → FilesTold → FilesTold → Type 0
IsOpenRisen names old new = IsAtOpen names old new (λ opening name. old.faults name < new.faults name)

-- the tables and the open file were read and aren't refused, and this is the name of the journal, which was the last
-- that was read
pub record IsAtJournal (names : WavesNames) (old new : FilesTold) (Why : Opening → List ℕ → Type 0) : Type 0 where
  pub layout : Layout
  pub opening : Opening
  pub tables : AreTables (IsHeld old.holds) names layout opening
  pub listed : Option (List OpenOrder)
  pub open_file : IsOpenFile old.holds opening.orders names.open_file listed
  pub name : List ℕ
  pub named : names.journal ≡ Some name
  pub reads : new.reads ≡ old.reads + all_reads names
  pub why : Why opening name

-- a file is refused that isn't the open file: a table, or the journal
abbrev pub IsRefusedFile : WavesNames → FilesTold → FilesTold → Input → Refusal → Type 0
IsRefusedFile names old new kind why =
    (among old new (opening_files names.layout names.stock names.orders)).refused kind why
    ⊎ ((kind ≡ input.Journal) × IsAtJournal names old new (λ opening name. (text : List ℕ)
    × IsHeld old.holds name text × (text_in text ≡ Err why)))

-- or it couldn't be read
abbrev pub IsRisenFile : WavesNames → FilesTold → FilesTold → Input → Type 0
IsRisenFile names old new kind =
    (among old new (opening_files names.layout names.stock names.orders)).fault kind
    ⊎ ((kind ≡ input.Journal) × IsAtJournal names old new (λ opening name. old.faults name < new.faults name))

-- the journal isn't right
abbrev pub IsWrongJournal : WavesNames → FilesTold → FilesTold → Finding → Type 0
IsWrongJournal names old new found =
    (fault : AuditFault) × (found ≡ finding.Journal fault)
    × IsAtJournal names old new (λ opening name. (text : List ℕ) × IsRead old.holds name text
    × Shows opening text (Err fault))
