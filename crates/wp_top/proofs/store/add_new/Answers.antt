use Rattle.std.proofs.Common.{◌≡◌, ◌∙◌, List, ℕ, ap, ap₂, arith, drop, length, map, subst, sym}
use Rattle.std.proofs.lemmas.List.{length-drop, length-map}
use Rattle.std.proofs.lemmas.List.Elements.{All-drop}
use Rattle.std.specs.Borrow.{Bor}
use Rattle.std.specs.List.{All}
use Rattle.std.specs.Prelude.{◌*◌, IsTrue, OnOk}
use Rattle.wp_journal.specs.Grammar.{is_line_entry}
use Rattle.wp_model.specs.declared.entry.Entry.{Entry}
use Rattle.wp_store.proofs.Moments.{course_within, no_course}
use Rattle.wp_store.specs.Disk.{GoesOn}
use Rattle.wp_store.specs.Records.{records_of}
use Rattle.wp_top.proofs.DaysOver.{each_by_reference}
use Rattle.wp_top.proofs.Storing.{none_appended}
use Rattle.wp_top.proofs.store.add_new.Goals as goal
use Rattle.wp_top.specs.Stores.{Appends, HasAdded, entry_calls, entry_syncs}

abbrev lent : Bor Entry → Entry
lent entry = entry.now

-- those that are added are the machine's entries after as many as were recovered
listed : (entries new : List (Bor Entry)) (all : List Entry) (n m : ℕ) → map lent new ≡ drop n (map lent entries) → map lent entries ≡ all → n ≡ m
    → map lent new ≡ drop m all
listed entries new all n m is same count = is ∙ ap₂ (λ (k : ℕ) (es : List Entry). drop k es) count same

pub append_all-requires-clause-room : goal.append_all-requires-clause-room
append_all-requires-clause-room g c =
    let new = listed _ c.entries_after.result.now c.args.machine.now.entries _ (length c.args.recovered.bodies) c.entries_after.ensures
    (ap (map lent) c.as_slice.ensures.value ∙ c.in_ok-entries.ensures) (c.len-old.ensures.len ∙ ap length c.bodies.ensures) in
    omega (
      arith,
      ap length new,
      length-map c.entries_after.result.now lent,
      length-drop (length c.args.recovered.bodies) c.args.machine.now.entries,
      c.requires.there,
      c.requires.few,
    )

pub append_all-requires-clause-within : goal.append_all-requires-clause-within
append_all-requires-clause-within g c =
    let n = length c.args.recovered.bodies in
    let new = listed _ c.entries_after.result.now c.args.machine.now.entries _ n c.entries_after.ensures
    (ap (map lent) c.as_slice.ensures.value ∙ c.in_ok-entries.ensures) (c.len-old.ensures.len ∙ ap length c.bodies.ensures) in
    each_by_reference (λ (e : Entry). IsTrue (is_line_entry e)) c.entries_after.result.now
    (subst (All (λ (e : Entry). IsTrue (is_line_entry e))) (sym new)
    (All-drop (λ (e : Entry). IsTrue (is_line_entry e)) n c.args.machine.now.entries c.requires.within))

pub returns-clause-some : goal.returns-clause-some
returns-clause-some g c = λ bytes told.
    let disk = g.D.Disk.told in
    let added = c.append_all.ensures.some bytes told in
    let new = listed _ c.entries_after.result.now c.args.machine.now.entries _ (length c.args.recovered.bodies) c.entries_after.ensures
    (ap (map lent) c.as_slice.ensures.value ∙ c.in_ok-entries.ensures) (c.len-old.ensures.len ∙ ap length c.bodies.ensures) in
    (added.0, subst (λ (es : List Entry). Appends (disk c.args.disk.now) (disk c.append_all.new.disk) (records_of bytes) es added.0) new added.1)

pub returns-clause-all : goal.returns-clause-all
returns-clause-all g c =
    let disk = g.D.Disk.told in
    let new = listed _ c.entries_after.result.now c.args.machine.now.entries _ (length c.args.recovered.bodies) c.entries_after.ensures
    (ap (map lent) c.as_slice.ensures.value ∙ c.in_ok-entries.ensures) (c.len-old.ensures.len ∙ ap length c.bodies.ensures) in
    subst (λ (es : List Entry). OnOk c.append_all.result (HasAdded (disk c.args.disk.now) (disk c.append_all.new.disk) es)) new c.append_all.ensures.all

pub returns-clause-course : goal.returns-clause-course
returns-clause-course g c =
    let disk = g.D.Disk.told in
    let listed-new = c.entries_after.result.now in
    let new = listed _ listed-new c.args.machine.now.entries _ (length c.args.recovered.bodies) c.entries_after.ensures
    (ap (map lent) c.as_slice.ensures.value ∙ c.in_ok-entries.ensures) (c.len-old.ensures.len ∙ ap length c.bodies.ensures) in
    subst (λ (n : ℕ). GoesOn (entry_calls * n) (entry_syncs * n) (disk c.args.disk.now) (disk c.append_all.new.disk))
    (sym (length-map listed-new lent) ∙ ap length new) c.append_all.ensures.course

-- where there is no memory for a list of the entries nothing was called
pub returns-in_err-entries-clause-some : goal.returns-in_err-entries-clause-some
returns-in_err-entries-clause-some g c = λ bytes told. (
  0,
  none_appended (g.D.Disk.told c.args.disk.now) (records_of bytes) (drop (length c.args.recovered.bodies) c.args.machine.now.entries) (g.met.D.Disk.is_disk _)
      (λ image now. ap records_of ((c.requires.settled bytes told).durable image now)),
)

pub returns-in_err-entries-clause-course : goal.returns-in_err-entries-clause-course
returns-in_err-entries-clause-course g c = course_within 0 _ 0 _ _ _ (omega arith) (omega arith) (no_course _)
