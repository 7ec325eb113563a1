use Rattle.std.proofs.Common.{◌≡◌, ◌∙◌, ◌<◌, ℕ, ap, arith, length, map, refl, subst, sym}
use Rattle.std.proofs.lemmas.List.{length-map}
use Rattle.wp_model.proofs.Elements.{All-at}
use Rattle.std.proofs.lemmas.Option.{slice_get-map, slice_get_read}
use Rattle.std.specs.Borrow.{Bor}
use Rattle.std.specs.Prelude.{◌*◌, Bool, IsTrue, false, option_map, true}
use Rattle.wp_journal.proofs.LineLengths.{line_length}
use Rattle.wp_journal.specs.Grammar.{is_line_entry}
use Rattle.wp_model.specs.declared.entry.Entry.{Entry}
use Rattle.wp_store.proofs.Moments.{course_within}
use Rattle.wp_store.specs.Disk.{GoesOn}
use Rattle.wp_top.proofs.DaysOver.{disk_failed, if_appended, if_failed, no_error}
use Rattle.wp_top.proofs.Storing.{HasAppended, all_appended, begun, lost_course, one_lost, one_more}
use Rattle.wp_top.proofs.store.append_each.Goals as goal
use Rattle.wp_top.specs.Stores.{entry_calls, entry_syncs}

pub loop-entry-init : goal.loop-entry-init
loop-entry-init g c = (
  begun (g.D.Disk.told c.args.store.now.disk.now) (map (λ (entry : Bor Entry). entry.now) c.args.entries.now) (g.met.D.Disk.is_disk _) c.requires.durable,
  c.requires.sound,
  omega arith,
  refl,
  omega arith,
)

-- the entry's line fits into a record
pub append-requires-clause-some : goal.append-requires-clause-some
append-requires-clause-some g c =
    let is = All-at (λ (entry : Bor Entry). IsTrue (is_line_entry entry.now)) c.args.entries.now c.loop-entry.entry-index c.entry-item.result c.requires.within
    (slice_get_read c.args.entries.now (length c.args.entries.now) c.loop-entry.entry-index c.entry-item.result refl c.loop-entry-test.true c.entry-item.is) in
    omega (arith, (line_length c.entry-item.result.now is).0, ap length (c.as_slice.ensures.value ∙ c.in_ok-line.ensures))

pub append-requires-clause-few : goal.append-requires-clause-few
append-requires-clause-few g c =
    let is = All-at (λ (entry : Bor Entry). IsTrue (is_line_entry entry.now)) c.args.entries.now c.loop-entry.entry-index c.entry-item.result c.requires.within
    (slice_get_read c.args.entries.now (length c.args.entries.now) c.loop-entry.entry-index c.entry-item.result refl c.loop-entry-test.true c.entry-item.is) in
    omega (arith, (line_length c.entry-item.result.now is).1, ap length (c.as_slice.ensures.value ∙ c.in_ok-line.ensures))

pub append-requires-clause-room : goal.append-requires-clause-room
append-requires-clause-room g c = omega (arith, c.loop-entry.invariant.2, c.requires.room, c.loop-entry-test.true)

pub loop-entry-preserved : goal.loop-entry-preserved
loop-entry-preserved g c =
    let told = g.D.Disk.told in
    let entries = c.args.entries.now in
    let listed = map (λ (entry : Bor Entry). entry.now) entries in
    let i = c.loop-entry.entry-index in
    let at = slice_get_read entries (length entries) i c.entry-item.result refl c.loop-entry-test.true c.entry-item.is in
    let next = slice_get-map (λ (entry : Bor Entry). entry.now) entries i ∙ ap (option_map (λ (entry : Bor Entry). entry.now)) at in
    let there : i < length listed = omega (arith, length-map entries (λ (entry : Bor Entry). entry.now), c.loop-entry-test.true) in
    let line = c.as_slice.ensures.value ∙ c.in_ok-line.ensures in
    let fine = sym c.is_err.ensures.value ∙ c.if-is_err.false in
    let done = c.append.ensures in
    let so_far = c.loop-entry.invariant in (
      one_more (told c.args.store.now.disk.now) (told c.loop-entry.store.disk.now) (told c.append.new.self.disk.now) listed i c.entry-item.result.now
          c.as_slice.result.now (g.met.D.Disk.is_disk _) (g.met.D.Disk.is_disk _) next there line so_far.0 (record {
            appends = record { leaves = done.any_moment so_far.1; course = done.course };
            stored = if_appended c.append.result fine done.stored;
            acknowledged = if_appended c.append.result fine done.acknowledged;
            ends = if_appended c.append.result fine done.synced;
            sound = done.healthy (λ failed. no_error c.append.result fine failed);
          }),
      done.breaks ∙ fine,
      omega (arith, if_appended c.append.result fine done.count, so_far.2),
      done.same_reference ∙ so_far.3,
      omega (arith, c.loop-entry-test.true),
    )

-- where there is no memory for a line nothing more was called
pub returns-in_err-line-clause-some : goal.returns-in_err-line-clause-some
returns-in_err-line-clause-some g c = λ bytes told. (c.loop-entry.entry-index, c.loop-entry.invariant.0.appends bytes told)

pub returns-in_err-line-clause-course : goal.returns-in_err-line-clause-course
returns-in_err-line-clause-course g c =
    let n = c.loop-entry.entry-index in
    let m = length c.args.entries.now in
    course_within (entry_calls * n) (entry_calls * m) (entry_syncs * n) (entry_syncs * m) _ _ (omega (arith, c.loop-entry.invariant.4))
    (omega (arith, c.loop-entry.invariant.4))
    c.loop-entry.invariant.0.course

pub returns-in_err-line-clause-sound : goal.returns-in_err-line-clause-sound
returns-in_err-line-clause-sound g c = λ other. c.loop-entry.invariant.0.sound

-- where an append fails the entries before it are there
pub returns-then-is_err-clause-some : goal.returns-then-is_err-clause-some
returns-then-is_err-clause-some g c =
    let told = g.D.Disk.told in
    let entries = c.args.entries.now in
    let listed = map (λ (entry : Bor Entry). entry.now) entries in
    let i = c.loop-entry.entry-index in
    let at = slice_get_read entries (length entries) i c.entry-item.result refl c.loop-entry-test.true c.entry-item.is in
    let next = slice_get-map (λ (entry : Bor Entry). entry.now) entries i ∙ ap (option_map (λ (entry : Bor Entry). entry.now)) at in
    let there : i < length listed = omega (arith, length-map entries (λ (entry : Bor Entry). entry.now), c.loop-entry-test.true) in
    let line = c.as_slice.ensures.value ∙ c.in_ok-line.ensures in
    let so_far = c.loop-entry.invariant in
    one_lost (told c.args.store.now.disk.now) (told c.loop-entry.store.disk.now) (told c.append.new.self.disk.now) listed i c.entry-item.result.now
    c.as_slice.result.now (g.met.D.Disk.is_disk _) next there line so_far.0
    (record { leaves = c.append.ensures.any_moment so_far.1; course = c.append.ensures.course })
    (if_failed c.append.result (sym c.is_err.ensures.value ∙ c.if-is_err.true) c.append.ensures.unsynced)

pub returns-then-is_err-clause-course : goal.returns-then-is_err-clause-course
returns-then-is_err-clause-course g c =
    let so_far = c.loop-entry.invariant in
    lost_course _ _ _ (map (λ (entry : Bor Entry). entry.now) c.args.entries.now) c.loop-entry.entry-index (length c.args.entries.now) c.as_slice.result.now
    c.loop-entry-test.true so_far.0 (record { leaves = c.append.ensures.any_moment so_far.1; course = c.append.ensures.course })

pub returns-then-is_err-clause-stops : goal.returns-then-is_err-clause-stops
returns-then-is_err-clause-stops g c =
    let so_far = c.loop-entry.invariant in
    let failed = disk_failed c.append.result (sym c.is_err.ensures.value ∙ c.if-is_err.true)
    (λ broken. absurd (not_both (c.append.ensures.broken.0 broken) so_far.1)) in
    omega (arith, c.append.ensures.disk failed, so_far.0.sound)
  where
    not_both : {b : Bool} → b ≡ true → b ≡ false → ⊥
    not_both is not = cc (sym is ∙ not)

pub returns-then-is_err-clause-sound : goal.returns-then-is_err-clause-sound
returns-then-is_err-clause-sound g c = λ other. absurd (other refl)

-- at the end all are there
pub returns-clause-some : goal.returns-clause-some
returns-clause-some g c = λ bytes told. (c.loop-entry.entry-index, c.loop-entry.invariant.0.appends bytes told)

pub returns-clause-course : goal.returns-clause-course
returns-clause-course g c =
    let end : c.loop-entry.entry-index ≡ length c.args.entries.now = omega (arith, c.loop-entry-test.false, c.loop-entry.invariant.4) in
    subst (λ (n : ℕ). GoesOn (entry_calls * n) (entry_syncs * n) (g.D.Disk.told c.args.store.now.disk.now) (g.D.Disk.told c.loop-entry.store.disk.now)) end
    c.loop-entry.invariant.0.course

pub returns-clause-all : goal.returns-clause-all
returns-clause-all g c =
    let told = g.D.Disk.told in
    let listed = map (λ (entry : Bor Entry). entry.now) c.args.entries.now in
    let counted = length-map c.args.entries.now (λ (entry : Bor Entry). entry.now) in
    let end : c.loop-entry.entry-index ≡ length listed = omega (arith, c.loop-entry-test.false, c.loop-entry.invariant.4, counted) in
    all_appended (told c.args.store.now.disk.now) (told c.loop-entry.store.disk.now) listed
    (subst (λ (n : ℕ). HasAppended (told c.args.store.now.disk.now) (told c.loop-entry.store.disk.now) listed n) end c.loop-entry.invariant.0)

pub returns-clause-sound : goal.returns-clause-sound
returns-clause-sound g c = λ other. c.loop-entry.invariant.0.sound
