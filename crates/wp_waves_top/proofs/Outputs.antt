-- What waves come to, file by file.
use Rattle.std.proofs.Common.{◌≡◌, ◌∙◌, refl, sym, ap, subst, ℕ, ◌+◌, ◌≤◌, inl, inr, Bool, true, false, List, [], ◌∷◌, length, All, arith}
use Rattle.std.proofs.Common.{Option, Some, None, Ok}
use Rattle.std.specs.Prelude.{◌&&◌, IfSome, IsTrue, nat_lt}
use Rattle.std.proofs.lemmas.Bool.{ltb-true}
use Rattle.std.proofs.lemmas.List.Elements.{All-head, All-tail}
use Rattle.wp_journal.specs.Grammar.{is_line_entry}
use Rattle.wp_model.specs.History.{History, IsLegalFrom}
use Rattle.wp_model.specs.Limits.{most_entries}
use Rattle.wp_model.specs.Opening.{Opening, Order}
use Rattle.wp_model.specs.State.{State, opening_state}
use Rattle.wp_model.specs.Step.{step}
use Rattle.wp_model.specs.Warehouse.{Layout}
use Rattle.wp_model.specs.declared.entry.Entry.{Entry}
use Rattle.wp_outside.specs.Outside.{FilesTold, NoneFalls, SameBytes}
use Rattle.wp_top.specs.Ends.{among}
use Rattle.wp_top.specs.Stops.{StopsAt, of_journal, opening_files, stop_at_words}
use Rattle.wp_top.specs.Stops as top
use Rattle.wp_top.specs.Texts.{IsHeld}
use Rattle.wp_top.specs.declared.complaint.Complaint.TheVariants as shared_complaint
use Rattle.wp_top.specs.declared.complaint.Stop.{Stop}
use Rattle.wp_top.specs.declared.complaint.Stop.TheVariants as shared
use Rattle.wp_top.specs.declared.input.Input.TheVariants as input
use Rattle.wp_waves.specs.declared.open_orders.OpenOrder.{OpenOrder}
use Rattle.wp_waves_top.specs.Ends.{Asked}
use Rattle.wp_waves_top.specs.Runs.{IsWavesOutput, all_reads, reads_if}
use Rattle.wp_waves_top.specs.Stops.{HasReadOpen, IfNamed, IsOutputAfter, StopsAfter, StopsAtJournal, StopsAtOpen, StopsFor, shared_stop}
use Rattle.wp_waves_top.specs.Texts.{AreTables, Holds, IsDayBefore, IsOpenFile}
use Rattle.wp_waves_top.specs.declared.complaint.WavesComplaint.TheVariants as complaint
use Rattle.wp_waves_top.specs.declared.complaint.WavesStop.{WavesStop}
use Rattle.wp_waves_top.specs.declared.complaint.WavesStop.TheVariants as stop
use Rattle.wp_waves_words.specs.Words.{WavesNames}
use Rattle.wp_words.specs.Reading.{IsFaultOf}
use Rattle.wp_words.specs.declared.fault.WordsFault.{WordsFault}
use Rattle.wp_words.specs.declared.fault.WordsFault.TheVariants as fault

and_first : (a b : Bool) → (a && b) ≡ true → a ≡ true
and_first true b is = refl
and_first false b is = is

-- entries of a journal, the first of this number, are no more than a journal may have
few_from : (opening : Opening) (number : ℕ) (state : State) (entries : List Entry) → number ≤ most_entries → IsLegalFrom opening number state entries
    → All (λ (entry : Entry). IsTrue (is_line_entry entry)) entries → number + length entries ≤ most_entries
few_from opening number state [] few legal within = omega (arith, few)
few_from opening number state (entry ∷ entries) few legal within =
    let here : is_line_entry entry ≡ true = All-head (λ (e : Entry). IsTrue (is_line_entry e)) entry entries within in
    let below = ltb-true entry.number most_entries (and_first (nat_lt entry.number most_entries) _ (and_first _ _ here)) in
    omega (
      arith,
      few_from opening (number + 1) (step opening state entry.command).state entries (omega (arith, below, legal.0)) legal.2
          (All-tail (λ (e : Entry). IsTrue (is_line_entry e)) entry entries within),
    )

-- so the day before has no more
pub few_before : (holds : Holds) (opening : Opening) (name : Option (List ℕ)) (history : History) → IsDayBefore holds opening name history
    → length history.entries ≤ most_entries
few_before holds opening None history is = subst (λ (h : History). length h.entries ≤ most_entries) (sym is) (omega arith)
few_before holds opening (Some name) history is =
    omega (arith, few_from history.opening 0 (opening_state history.opening) history.entries (omega arith) is.2.begins.legal is.2.begins.within)

-- what a name holds after some reads it held before them
held_back : (old mid : Holds) (name text : List ℕ) → SameBytes old mid → IsHeld mid name text → IsHeld old name text
held_back old mid name text same held = subst (λ (o : Option (List ℕ)). IfSome o (λ told. text ≡ told)) (same name) held

pub open_back : (old mid : Holds) (orders : List Order) (name : Option (List ℕ)) (listed : Option (List OpenOrder)) → SameBytes old mid
    → IsOpenFile mid orders name listed → IsOpenFile old orders name listed
open_back old mid orders None None same is = tt
open_back old mid orders None (Some listed) same is = is
open_back old mid orders (Some name) None same is = is
open_back old mid orders (Some name) (Some listed) same is = (is.0, held_back old mid name is.0 same is.1, is.2)

pub before_back : (old mid : Holds) (opening : Opening) (name : Option (List ℕ)) (history : History) → SameBytes old mid
    → IsDayBefore mid opening name history → IsDayBefore old opening name history
before_back old mid opening None history same is = is
before_back old mid opening (Some name) history same is =
    (is.0, record { held = held_back old mid name is.0 same is.1.held; short = is.1.short }, is.2)

-- the tables were read, between these two states of files, and say a layout and an opening
pub record HaveTables (names : WavesNames) (layout : Layout) (opening : Opening) (old mid : FilesTold) : Type 0 where
  pub tables : AreTables (IsHeld old.holds) names layout opening
  pub same : SameBytes old.holds mid.holds
  pub counts : NoneFalls old.faults mid.faults
  pub reads : mid.reads ≡ old.reads + 3

-- the output after them is that of the waves
pub output_is : (names : WavesNames) (layout : Layout) (opening : Opening) (old mid new : FilesTold) (output : List ℕ)
    → HaveTables names layout opening old mid → IsOutputAfter names layout opening mid new output → IsWavesOutput names old new output
output_is names layout opening old mid new output have is = record {
  layout = layout;
  opening = opening;
  tables = have.tables;
  listed = is.listed;
  open_file = open_back old.holds mid.holds opening.orders names.open_file is.listed have.same is.open_file;
  history = is.history;
  before = before_back old.holds mid.holds opening names.journal is.history have.same is.before;
  sent = is.sent;
  reads = omega (arith, have.reads, is.reads);
}

-- a stop at the open file
at_open : (names : WavesNames) (layout : Layout) (opening : Opening) (old mid new : FilesTold) (name : List ℕ) (why : WavesStop)
    → HaveTables names layout opening old mid → names.open_file ≡ Some name → StopsAtOpen opening.orders mid new name why
    → StopsFor (Ok names) old new why
at_open names layout opening old mid new name (stop.Complaint (complaint.OpenRefused why)) have named stops = (
  names,
  refl,
  record {
    layout = layout;
    opening = opening;
    tables = have.tables;
    name = name;
    named = named;
    reads = omega (arith, have.reads, stops.0);
    why = (stops.1, held_back old.holds mid.holds name stops.1 have.same stops.2, stops.3);
  },
)
at_open names layout opening old mid new name (stop.Complaint complaint.OpenFault) have named stops = (
  names,
  refl,
  record {
    layout = layout;
    opening = opening;
    tables = have.tables;
    name = name;
    named = named;
    reads = omega (arith, have.reads, stops.0);
    why = omega (arith, have.counts name, stops.1);
  },
)
at_open names layout opening old mid new name (stop.Complaint (complaint.Shared why)) have named stops = absurd stops
at_open names layout opening old mid new name stop.Memory have named stops = tt

-- what is known of a stop at the journal
pub record IsAtLast (names : WavesNames) (layout : Layout) (opening : Opening) (old mid last : FilesTold) (listed : Option (List OpenOrder))
    (name : List ℕ) : Type 0 where
  pub have : HaveTables names layout opening old mid
  pub read : HasReadOpen names opening mid last listed
  pub named : names.journal ≡ Some name

both_same : (old mid last : Holds) → SameBytes old mid → SameBytes mid last → SameBytes old last
both_same old mid last first second = λ name. second name ∙ first name

-- where it is the last file, the reads are all
all_read : (names : WavesNames) (layout : Layout) (opening : Opening) (old mid last new : FilesTold) (listed : Option (List OpenOrder)) (name : List ℕ)
    → IsAtLast names layout opening old mid last listed name → new.reads ≡ last.reads + 1 → new.reads ≡ old.reads + all_reads names
all_read names layout opening old mid last new listed name at reads =
    omega (arith, at.have.reads, at.read.reads, reads, ap reads_if at.named)

-- a stop at the journal
at_journal : (names : WavesNames) (layout : Layout) (opening : Opening) (old mid last new : FilesTold) (listed : Option (List OpenOrder)) (name : List ℕ)
    (why : Stop) → IsAtLast names layout opening old mid last listed name → StopsAt (of_journal opening) last new name input.Journal why
    → StopsFor (Ok names) old new (shared_stop why)
at_journal names layout opening old mid last new listed name shared.Memory at stops = tt
at_journal names layout opening old mid last new listed name (shared.Complaint (shared_complaint.Words why)) at (inl stops) = absurd stops
at_journal names layout opening old mid last new listed name (shared.Complaint (shared_complaint.Words why)) at (inr stops) = absurd stops.3
at_journal names layout opening old mid last new listed name (shared.Complaint (shared_complaint.Refused kind why)) at (inl stops) = (
  names,
  refl,
  inr (
    stops.0,
    record {
      layout = layout;
      opening = opening;
      tables = at.have.tables;
      listed = listed;
      open_file = open_back old.holds mid.holds opening.orders names.open_file listed at.have.same at.read.open_file;
      name = name;
      named = at.named;
      reads = all_read names layout opening old mid last new listed name at stops.1;
      why = (stops.2, held_back old.holds last.holds name stops.2 (both_same old.holds mid.holds last.holds at.have.same at.read.same) stops.3, stops.4);
    },
  ),
)
at_journal names layout opening old mid last new listed name (shared.Complaint (shared_complaint.Refused kind why)) at (inr stops) = absurd stops.3
at_journal names layout opening old mid last new listed name (shared.Complaint (shared_complaint.Fault kind)) at (inl stops) = (
  names,
  refl,
  inr (
    stops.0,
    record {
      layout = layout;
      opening = opening;
      tables = at.have.tables;
      listed = listed;
      open_file = open_back old.holds mid.holds opening.orders names.open_file listed at.have.same at.read.open_file;
      name = name;
      named = at.named;
      reads = all_read names layout opening old mid last new listed name at stops.1;
      why = omega (arith, at.have.counts name, at.read.counts name, stops.2);
    },
  ),
)
at_journal names layout opening old mid last new listed name (shared.Complaint (shared_complaint.Fault kind)) at (inr stops) = absurd stops.3
at_journal names layout opening old mid last new listed name (shared.Complaint (shared_complaint.Wrong found)) at (inl stops) = absurd stops
at_journal names layout opening old mid last new listed name (shared.Complaint (shared_complaint.Wrong found)) at (inr stops) = (
  names,
  refl,
  (
    stops.3.0,
    stops.3.1,
    record {
      layout = layout;
      opening = opening;
      tables = at.have.tables;
      listed = listed;
      open_file = open_back old.holds mid.holds opening.orders names.open_file listed at.have.same at.read.open_file;
      name = name;
      named = at.named;
      reads = all_read names layout opening old mid last new listed name at stops.2;
      why = (
        stops.0,
        record {
          held = held_back old.holds last.holds name stops.0 (both_same old.holds mid.holds last.holds at.have.same at.read.same) stops.1.held;
          short = stops.1.short;
        },
        stops.3.2,
      );
    },
  ),
)
at_journal names layout opening old mid last new listed name (shared.Complaint shared_complaint.Store) at (inl stops) = absurd stops
at_journal names layout opening old mid last new listed name (shared.Complaint shared_complaint.Store) at (inr stops) = absurd stops.3

for_memory : (names : WavesNames) (old new : FilesTold) (why : WavesStop) → why ≡ stop.Memory → StopsFor (Ok names) old new why
for_memory names old new why is = subst (StopsFor (Ok names) old new) (sym is) tt

-- a stop once the tables were read
pub stops_after : (names : WavesNames) (layout : Layout) (opening : Opening) (old mid new : FilesTold) (why : WavesStop)
    → HaveTables names layout opening old mid → StopsAfter names opening mid new why → StopsFor (Ok names) old new why
stops_after names layout opening old mid new why have (inl stops) = go names.open_file refl stops
  where
    go : (o : Option (List ℕ)) → names.open_file ≡ o → IfNamed o (StopsAtOpen opening.orders mid new) why → StopsFor (Ok names) old new why
    go None named stops = for_memory names old new why stops
    go (Some name) named stops = at_open names layout opening old mid new name why have named stops
stops_after names layout opening old mid new why have (inr (inl (last, listed, read, stops))) = go names.journal refl stops
  where
    go : (o : Option (List ℕ)) → names.journal ≡ o → IfNamed o (StopsAtJournal opening last new) why → StopsFor (Ok names) old new why
    go None named stops = for_memory names old new why stops
    go (Some name) named (way, is, at) =
        subst (StopsFor (Ok names) old new) (sym is)
        (at_journal names layout opening old mid last new listed name way (record { have = have; read = read; named = named }) at)
stops_after names layout opening old mid new why have (inr (inr is)) = for_memory names old new why is

-- a stop among the tables
pub stops_at_tables : (names : WavesNames) (old new : FilesTold) (why : Stop)
    → top.StopsFor (among old new (opening_files names.layout names.stock names.orders)) why → StopsFor (Ok names) old new (shared_stop why)
stops_at_tables names old new shared.Memory stops = tt
stops_at_tables names old new (shared.Complaint (shared_complaint.Words why)) stops = absurd stops
stops_at_tables names old new (shared.Complaint (shared_complaint.Refused kind why)) stops = (names, refl, inl stops)
stops_at_tables names old new (shared.Complaint (shared_complaint.Fault kind)) stops = (names, refl, inl stops)
stops_at_tables names old new (shared.Complaint (shared_complaint.Wrong found)) stops = absurd stops
stops_at_tables names old new (shared.Complaint shared_complaint.Store) stops = absurd stops

-- a stop at words
pub stops_at_words : (asked : Asked) (told : FilesTold) (why : WordsFault) → IsFaultOf asked why → StopsFor asked told told (shared_stop (stop_at_words why))
stops_at_words asked told fault.NoMode is = (is refl, refl)
stops_at_words asked told fault.UnknownMode is = (is refl, refl)
stops_at_words asked told fault.BadWords is = (is refl, refl)
stops_at_words asked told (fault.TooManyWaves waves) is = (is refl, refl)
stops_at_words asked told fault.Memory is = tt
