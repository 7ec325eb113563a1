-- What the files of `waves` say, and why an open file is refused.
use Rattle.std.specs.Prelude.{◌≡◌, ℕ, nat_lt, ⊤, List, ◌++◌, codes, length}
use Rattle.std.specs.Prelude.{Option, Some, None, if◌then◌else◌, Result, Ok, Err}
use Rattle.wp_journal.specs.Journals.{IsJournalOfHistory}
use Rattle.wp_model.specs.History.{History, opened, state_after}
use Rattle.wp_model.specs.Journal.{after_space, line}
use Rattle.wp_model.specs.Limits.{most_file_bytes}
use Rattle.wp_model.specs.Opening.{Opening, Order}
use Rattle.wp_model.specs.Outcomes.{and_then}
use Rattle.wp_model.specs.Warehouse.{Layout}
use Rattle.wp_top.specs.Ends.{complaint_text}
use Rattle.wp_top.specs.Stops.{IsRead, opening_files, tables_said}
use Rattle.wp_top.specs.Texts.{HaveSaid, IsHeld, refused_by}
use Rattle.wp_waves.specs.Faults.{fault_text}
use Rattle.wp_waves.specs.OpenFile.{open_said, open_without}
use Rattle.wp_waves.specs.declared.open_orders.OpenOrder.{OpenOrder}
use Rattle.wp_waves_top.specs.declared.complaint.OpenRefusal.{OpenRefusal}
use Rattle.wp_waves_top.specs.declared.complaint.OpenRefusal.TheVariants as refusal
use Rattle.wp_waves_top.specs.declared.complaint.WavesComplaint.{WavesComplaint}
use Rattle.wp_waves_top.specs.declared.complaint.WavesComplaint.TheVariants as complaint
use Rattle.wp_waves_words.specs.Words.{WavesNames}

-- what names hold, where that is told
abbrev pub Holds : Type 0
Holds = List ℕ → Option (List ℕ)

-- the layout, the stock file and the order file, whose texts are so, say this layout and this opening, for carts of the
-- units that the words say
pub record AreTables (IsText : List ℕ → List ℕ → Type 0) (names : WavesNames) (layout : Layout)
    (opening : Opening) : Type 0 where
  pub said : HaveSaid IsText (opening_files names.layout names.stock names.orders) (tables_said layout opening)
  pub units : opening.units ≡ names.units

-- a text that isn't too long for an open file
abbrev pub open_text_in : List ℕ → Result (List ℕ) OpenRefusal
open_text_in text = if nat_lt most_file_bytes (length text) then Err refusal.TooLong else Ok text

-- the open orders that the text of an open file says, or why it is refused
abbrev pub open_in : List Order → List ℕ → Result (List OpenOrder) OpenRefusal
open_in orders text = and_then (open_text_in text) (λ text. refused_by refusal.Row (open_said orders text))

-- the open file of a name says these open orders
abbrev pub IsListed : Holds → List Order → List ℕ → List OpenOrder → Type 0
IsListed holds orders name listed = (text : List ℕ) × IsHeld holds name text × (open_in orders text ≡ Ok listed)

-- the open file says these open orders, where the words name one, and else it says none
abbrev pub IsOpenFile : Holds → List Order → Option (List ℕ) → Option (List OpenOrder) → Type 0
IsOpenFile holds orders None None = ⊤
IsOpenFile holds orders None (Some listed) = ⊥
IsOpenFile holds orders (Some name) None = ⊥
IsOpenFile holds orders (Some name) (Some listed) = IsListed holds orders name listed

-- the history after which waves go out: that of the journal, where the words name one, and else the one in which
-- nothing was answered yet
abbrev pub IsDayBefore : Holds → Opening → Option (List ℕ) → History → Type 0
IsDayBefore holds opening None history = history ≡ opened opening
IsDayBefore holds opening (Some name) history =
    (text : List ℕ) × IsRead holds name text × IsJournalOfHistory opening text history

-- the open orders: those of the open file, or where there is none, all orders that lie in no wave which isn't cancelled
abbrev pub open_orders : History → Option (List OpenOrder) → List OpenOrder
open_orders history (Some listed) = listed
open_orders history None = open_without (state_after history).waves history.opening.orders

-- what a refusal of an open file is called
abbrev pub open_refusal_text : OpenRefusal → List ℕ
open_refusal_text refusal.TooLong = codes "too-long"
open_refusal_text (refusal.Row fault) = fault_text fault

-- what is said where there is no output
abbrev pub waves_complaint_text : WavesComplaint → List ℕ
waves_complaint_text (complaint.Shared why) = complaint_text why
waves_complaint_text (complaint.OpenRefused why) = codes "refused open" ++ after_space (open_refusal_text why)
waves_complaint_text complaint.OpenFault = codes "read fault open"

-- its line
abbrev pub waves_complaint_line : WavesComplaint → List ℕ
waves_complaint_line why = line (waves_complaint_text why)
