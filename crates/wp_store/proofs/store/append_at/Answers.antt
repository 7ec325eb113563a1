use Rattle.std.proofs.Common.{◌≡◌, inl, sym, ◌∙◌, ap, subst, ℕ, ◌+◌, List, [], ◌∷◌, length, Some}
use Rattle.wp_store.specs.Records.{records_of, stored_bytes}
use Rattle.wp_store.specs.Store.{IsWithOrWithout, IsAtRest, IsSettledAt, GainsRecord}
use Rattle.wp_store.proofs.Crash.{closed_within, behind_keeps, mark_leaves, appended, appended_rests, appended_place}
use Rattle.wp_store.proofs.Moments.{weakened, joined, course_joined, ends_joined}
use Rattle.std.specs.Prelude.{option_map}
use Rattle.wp_store.specs.Disk.{EndsSynced, WhereTold, written_over}
use Rattle.wp_store.proofs.Told.{told_before, on_ok, on_both, same_some}
use Rattle.wp_store.proofs.store.append_at.Goals as goal

pub write_and_sync-requires-clause-within : goal.write_and_sync-requires-clause-within
write_and_sync-requires-clause-within g c bytes told =
    let s = c.requires.settled bytes told in
    closed_within bytes c.args.place s.at_rest s.place_is

pub write_and_sync-requires-clause-durable : goal.write_and_sync-requires-clause-durable
write_and_sync-requires-clause-durable g c bytes told = (c.requires.settled bytes told).durable

-- what is written behind the closed byte leaves the records as they were
pub returns-in_err-write_and_sync-clause-any_moment : goal.returns-in_err-write_and_sync-clause-any_moment
returns-in_err-write_and_sync-clause-any_moment g c bytes told =
    let s = c.requires.settled bytes told in
    weakened _ _ _ (IsWithOrWithout (records_of bytes) c.args.body.now) (c.write_and_sync.ensures.any_moment bytes told)
    (λ image torn. inl (behind_keeps bytes c.args.place s.at_rest s.place_is _ image torn))

-- and the write over it leaves them, or them and the body
pub returns-clause-any_moment : goal.returns-clause-any_moment
returns-clause-any_moment g c bytes told =
    let s = c.requires.settled bytes told in
    let P = IsWithOrWithout (records_of bytes) c.args.body.now in
    let first = weakened _ _ _ P (c.write_and_sync.ensures.any_moment bytes told)
    (λ image torn. inl (behind_keeps bytes c.args.place s.at_rest s.place_is _ image torn)) in
    let piece = c.args.piece.now in
    let staged : (g.D.Disk.told c.write_and_sync.new.disk).holds ≡ Some (written_over (c.args.place + 1) piece bytes) =
    c.in_ok-write_and_sync.ensures.written ∙ ap (option_map (written_over (c.args.place + 1) piece)) told in
    let second = weakened _ _ _ P (c.write_and_sync-2.ensures.any_moment _ staged)
    (mark_leaves bytes c.args.place s.at_rest s.place_is c.args.body.now c.requires.some c.requires.few (c.requires.room bytes told) piece c.requires.piece) in
    joined _ _ _ P first second

pub returns-clause-course : goal.returns-clause-course
returns-clause-course g c = course_joined 2 2 1 1 _ _ _ c.write_and_sync.ensures.course c.write_and_sync-2.ensures.course

-- the sync after the piece, and the one after its mark
pub returns-clause-synced : goal.returns-clause-synced
returns-clause-synced g c = on_both {R = WhereTold (g.D.Disk.told c.args.disk.now).holds
    (λ bytes. EndsSynced 2 (g.D.Disk.told c.args.disk.now) (g.D.Disk.told c.write_and_sync-2.new.disk))}
    c.write_and_sync-2.result
    (λ written synced bytes told. ends_joined 1 1 _ _ _ (c.in_ok-write_and_sync.ensures.synced bytes told)
    (synced _ (c.in_ok-write_and_sync.ensures.written ∙ ap (option_map (written_over (c.args.place + 1) c.args.piece.now)) told)))
    c.write_and_sync-2.ensures.written c.write_and_sync-2.ensures.synced

pub returns-clause-stored : goal.returns-clause-stored
returns-clause-stored g c = on_ok {Q = GainsRecord (g.D.Disk.told c.args.disk.now) (g.D.Disk.told c.write_and_sync-2.new.disk) c.args.body.now} _
    (λ written bytes told now is.
    let s = c.requires.settled bytes told in
    let piece = c.args.piece.now in
    let staged : (g.D.Disk.told c.write_and_sync.new.disk).holds ≡ Some (written_over (c.args.place + 1) piece bytes) =
    c.in_ok-write_and_sync.ensures.written ∙ ap (option_map (written_over (c.args.place + 1) piece)) told in
    let all : Some now ≡ Some (written_over c.args.place (1 ∷ []) (written_over (c.args.place + 1) piece bytes)) =
    sym is ∙ written ∙ ap (option_map (written_over c.args.place (1 ∷ []))) staged in
    ap records_of (same_some _ _ all)
    ∙ appended bytes c.args.place s.at_rest s.place_is c.args.body.now c.requires.some c.requires.few (c.requires.room bytes told) piece c.requires.piece)
    c.write_and_sync-2.ensures.written

pub returns-clause-settled : goal.returns-clause-settled
returns-clause-settled g c = on_both {R = IsSettledAt (g.D.Disk.told c.write_and_sync-2.new.disk) (c.args.place + 5 + length c.args.body.now)} _
    (λ written durable now is.
    let staged = c.in_ok-write_and_sync.ensures.written in
    let piece = c.args.piece.now in
    let mid = told_before _ (written_over c.args.place (1 ∷ [])) now (sym is ∙ written) in
    let old = told_before _ (written_over (c.args.place + 1) piece) mid.bytes (sym mid.told ∙ staged) in
    let s = c.requires.settled old.bytes old.told in
    let all : now ≡ written_over c.args.place (1 ∷ []) (written_over (c.args.place + 1) piece old.bytes) =
    mid.now_is ∙ ap (written_over c.args.place (1 ∷ [])) old.now_is in
    let room = c.requires.room old.bytes old.told in
    record {
      at_rest = subst IsAtRest (sym all) (appended_rests old.bytes c.args.place s.at_rest s.place_is c.args.body.now c.requires.some c.requires.few room piece
          c.requires.piece);
      durable = durable now is;
      place_is = appended_place old.bytes c.args.place s.at_rest s.place_is c.args.body.now c.requires.some c.requires.few room piece c.requires.piece
          ∙ ap (λ (l : List ℕ). stored_bytes (records_of l)) (sym all);
    })
    c.write_and_sync-2.ensures.written c.write_and_sync-2.ensures.durable
