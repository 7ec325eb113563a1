use Rattle.std.proofs.Common.{◌≡◌, ◌≤◌, sym, ◌∙◌, ap, subst, ℕ, List, [], ◌∷◌, length, take, Some}
use Rattle.std.specs.Prelude.{option_map}
use Rattle.wp_store.specs.Disk.{EndsSynced, WhereTold, written_over}
use Rattle.wp_store.specs.Records.{records_of, stored_bytes}
use Rattle.wp_store.specs.Store.{IsAtRest, IsSettledAt, KeepsRecords, StandsFor}
use Rattle.wp_store.proofs.Crash.{end_within, cut_within, cut_leaves, end_leaves, closed_records, closed_rests}
use Rattle.wp_store.proofs.Moments.{weakened, joined, course_joined, ends_joined}
use Rattle.wp_store.proofs.Told.{told_before, on_ok, on_both, same_some}
use Rattle.wp_store.proofs.recovery.close.Goals as goal

pub cut_and_sync-requires-clause-within : goal.cut_and_sync-requires-clause-within
cut_and_sync-requires-clause-within g c bytes told = end_within bytes c.args.place (c.requires.place bytes told)

pub write_and_sync-requires-clause-within : goal.write_and_sync-requires-clause-within
write_and_sync-requires-clause-within g c bytes told =
    let old = told_before _ (take c.args.place) bytes (sym told ∙ c.in_ok-cut_and_sync.ensures.written) in
    subst (λ (l : List ℕ). c.args.place ≤ length l) (sym old.now_is) (cut_within old.bytes c.args.place (c.requires.place old.bytes old.told))

pub returns-in_err-cut_and_sync-clause-any_moment : goal.returns-in_err-cut_and_sync-clause-any_moment
returns-in_err-cut_and_sync-clause-any_moment g c bytes told =
    weakened _ _ _ (StandsFor (records_of bytes)) (c.cut_and_sync.ensures.any_moment bytes told)
    (cut_leaves bytes c.args.place (c.requires.place bytes told))

pub returns-clause-any_moment : goal.returns-clause-any_moment
returns-clause-any_moment g c bytes told =
    let P = StandsFor (records_of bytes) in
    let first = weakened _ _ _ P (c.cut_and_sync.ensures.any_moment bytes told)
    (cut_leaves bytes c.args.place (c.requires.place bytes told)) in
    let mid : (g.D.Disk.told c.cut_and_sync.new.disk).holds ≡ Some (take c.args.place bytes) =
    c.in_ok-cut_and_sync.ensures.written ∙ ap (option_map (take c.args.place)) told in
    let second = weakened _ _ _ P (c.write_and_sync.ensures.any_moment _ mid)
    (end_leaves bytes c.args.place (c.requires.place bytes told)) in
    joined _ _ _ P first second

pub returns-clause-course : goal.returns-clause-course
returns-clause-course g c = course_joined 2 2 1 1 _ _ _ c.cut_and_sync.ensures.course c.write_and_sync.ensures.course

-- the sync after the cut, and the one after the byte
pub returns-clause-synced : goal.returns-clause-synced
returns-clause-synced g c = on_both {R = WhereTold (g.D.Disk.told c.args.disk.now).holds
    (λ bytes. EndsSynced 2 (g.D.Disk.told c.args.disk.now) (g.D.Disk.told c.write_and_sync.new.disk))}
    c.write_and_sync.result
    (λ written synced bytes told. ends_joined 1 1 _ _ _ (c.in_ok-cut_and_sync.ensures.synced bytes told)
    (synced _ (c.in_ok-cut_and_sync.ensures.written ∙ ap (option_map (take c.args.place)) told)))
    c.write_and_sync.ensures.written c.write_and_sync.ensures.synced

pub returns-clause-same : goal.returns-clause-same
returns-clause-same g c = on_ok {Q = KeepsRecords (g.D.Disk.told c.args.disk.now) (g.D.Disk.told c.write_and_sync.new.disk)} _
    (λ written bytes told now is.
    let mid : (g.D.Disk.told c.cut_and_sync.new.disk).holds ≡ Some (take c.args.place bytes) =
    c.in_ok-cut_and_sync.ensures.written ∙ ap (option_map (take c.args.place)) told in
    let all : Some now ≡ Some (written_over c.args.place (0 ∷ []) (take c.args.place bytes)) =
    sym is ∙ written ∙ ap (option_map (written_over c.args.place (0 ∷ []))) mid in
    ap records_of (same_some _ _ all) ∙ closed_records bytes c.args.place (c.requires.place bytes told))
    c.write_and_sync.ensures.written

pub returns-clause-settled : goal.returns-clause-settled
returns-clause-settled g c = on_both {R = IsSettledAt (g.D.Disk.told c.write_and_sync.new.disk) c.args.place} _
    (λ written durable now is.
    let mid = told_before _ (written_over c.args.place (0 ∷ [])) now (sym is ∙ written) in
    let old = told_before _ (take c.args.place) mid.bytes (sym mid.told ∙ c.in_ok-cut_and_sync.ensures.written) in
    let place = c.requires.place old.bytes old.told in
    let all : now ≡ written_over c.args.place (0 ∷ []) (take c.args.place old.bytes) =
    mid.now_is ∙ ap (written_over c.args.place (0 ∷ [])) old.now_is in
    record {
      at_rest = subst IsAtRest (sym all) (closed_rests old.bytes c.args.place place);
      durable = durable now is;
      place_is = place ∙ ap stored_bytes (sym (closed_records old.bytes c.args.place place)) ∙ ap (λ (l : List ℕ). stored_bytes (records_of l)) (sym all);
    })
    c.write_and_sync.ensures.written c.write_and_sync.ensures.durable
