-- What the files of `waves` come to where what they hold is told, and no count of their names rose.
use Rattle.std.specs.Prelude.{◌≡◌, ◌⊎◌, ℕ, List, Option, Some, IfSome, Ok, Err}
use Rattle.wp_journal.specs.Journals.{Shows}
use Rattle.wp_journal.specs.declared.verdict.AuditFault.{AuditFault}
use Rattle.wp_model.specs.History.{History}
use Rattle.wp_model.specs.Opening.{Opening}
use Rattle.wp_model.specs.Warehouse.{Layout}
use Rattle.wp_outside.specs.Outside.{FilesTold}
use Rattle.wp_top.specs.Promise.{FilesStand, HaveBadFile}
use Rattle.wp_top.specs.Stops.{IsRead, opening_files}
use Rattle.wp_top.specs.Texts.{File, IsHeld, IsTold, text_in}
use Rattle.wp_top.specs.declared.input.Refusal.{Refusal}
use Rattle.wp_waves.specs.declared.open_orders.OpenOrder.{OpenOrder}
use Rattle.wp_waves_top.specs.Texts.{AreTables, IsDayBefore, IsOpenFile, open_in}
use Rattle.wp_waves_top.specs.declared.complaint.OpenRefusal.{OpenRefusal}
use Rattle.wp_waves_words.specs.Words.{WavesNames}

-- the layout, the stock file and the order file
abbrev pub tables_of : WavesNames → List File
tables_of names = opening_files names.layout names.stock names.orders

-- what a name holds is told, and its count of faults stands
pub record IsSafe (old new : FilesTold) (name : List ℕ) : Type 0 where
  pub text : List ℕ
  pub told : IsTold old.holds name text
  pub stands : new.faults name ≡ old.faults name

-- so it is with the tables, which say this layout and this opening
pub record AreSafeTables (old new : FilesTold) (names : WavesNames) (layout : Layout)
    (opening : Opening) : Type 0 where
  pub tables : AreTables (IsTold old.holds) names layout opening
  pub stand : FilesStand old new (tables_of names)

-- and with the open file, where one is named, which says these open orders
pub record IsSafeOpen (old new : FilesTold) (names : WavesNames) (layout : Layout) (opening : Opening)
    (listed : Option (List OpenOrder)) : Type 0 where
  pub tables : AreSafeTables old new names layout opening
  pub open_file : IsOpenFile old.holds opening.orders names.open_file listed
  pub safe : IfSome names.open_file (IsSafe old new)

-- behind safe tables the open file is told and refused
pub record IsBadOpen (old new : FilesTold) (names : WavesNames) : Type 0 where
  pub layout : Layout
  pub opening : Opening
  pub tables : AreSafeTables old new names layout opening
  pub name : List ℕ
  pub named : names.open_file ≡ Some name
  pub safe : IsSafe old new name
  pub text : List ℕ
  pub held : IsHeld old.holds name text
  pub why : OpenRefusal
  pub refused : open_in opening.orders text ≡ Err why

-- behind safe tables and a safe open file the journal is told, and this holds of it
pub record IsAtSafeJournal (old new : FilesTold) (names : WavesNames)
    (Why : Opening → List ℕ → Type 0) : Type 0 where
  pub layout : Layout
  pub opening : Opening
  pub listed : Option (List OpenOrder)
  pub before : IsSafeOpen old new names layout opening listed
  pub name : List ℕ
  pub named : names.journal ≡ Some name
  pub safe : IsSafe old new name
  pub why : Why opening name

-- it is refused
abbrev pub IsBadJournal : FilesTold → FilesTold → WavesNames → Type 0
IsBadJournal old new names = IsAtSafeJournal old new names (λ opening name. (text : List ℕ)
    × IsHeld old.holds name text × (why : Refusal) × (text_in text ≡ Err why))

-- or it isn't right
abbrev pub IsFalseJournal : FilesTold → FilesTold → WavesNames → Type 0
IsFalseJournal old new names = IsAtSafeJournal old new names (λ opening name. (text : List ℕ)
    × IsRead old.holds name text × (fault : AuditFault) × Shows opening text (Err fault))

-- a file is told and refused, the first that is
abbrev pub IsBadInput : FilesTold → FilesTold → WavesNames → Type 0
IsBadInput old new names =
    HaveBadFile old new (tables_of names) ⊎ (IsBadOpen old new names ⊎ IsBadJournal old new names)

-- all files are safe, none is refused, and the journal is right, where one is named
pub record AreGoodInputs (old new : FilesTold) (names : WavesNames) : Type 0 where
  pub layout : Layout
  pub opening : Opening
  pub listed : Option (List OpenOrder)
  pub before : IsSafeOpen old new names layout opening listed
  pub history : History
  pub day : IsDayBefore old.holds opening names.journal history
  pub safe : IfSome names.journal (IsSafe old new)
