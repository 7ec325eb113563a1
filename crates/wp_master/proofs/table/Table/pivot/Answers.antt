use Rattle.std.proofs.Common.{◌∙◌, ◌≡◌, List, set, ◌+◌, ◌<◌, ◌<ℤ◌, pos, ap, subst, sym}
use Rattle.std.proofs.lemmas.Result.{err_from_is_err_and}
use Rattle.wp_master.proofs.Spots.{basic_turns, laid_above, laid_whole, laid_wide, place_is_found, shown_turns, slot_not_first, spots_stay, turn_of}
use Rattle.wp_master.specs.Pivots.{AreWhole, AreWideEntries, IsPivot, Table, entry_of}
use Rattle.wp_master.specs.Spots.{shown, spot_of}
use Rattle.wp_master.specs.declared.spot.Spot.{Spot}
use Rattle.wp_master.specs.declared.spot.Spot.TheVariants.{Basic, Stored}
use Rattle.wp_master.proofs.table.Table.pivot.Goals as goal

pub returns-in_default-clause-made : goal.returns-in_default-clause-made
returns-in_default-clause-made c =
    let stored = c.self.inside.stored in
    let spots = c.self.inside.spots.items in
    let at : spot_of spots c.args.place ≡ Basic c.in_default.field-0 =
    ap (λ (xs : List Spot). spot_of xs c.args.place) (sym c.as_slice.ensures.value) ∙ sym c.spot_at.ensures ∙ c.in_default.is in
    subst (λ (t : Table). IsPivot c.args.row c.args.place t (shown stored spots)) c.self.view_is
    (basic_turns stored spots c.args.row c.args.place c.in_default.field-0 at
    (subst (λ (t : Table). c.args.row + 1 < t.rows) (sym c.self.view_is) c.requires.not_last) c.requires.not_first
    (subst (λ (t : Table). c.args.place < t.width) (sym c.self.view_is) c.requires.within)
    (subst (λ (t : Table). pos 0 <ℤ entry_of t c.args.row c.args.place) (sym c.self.view_is) c.requires.above))

pub unwrap-leaving-requires : goal.unwrap-leaving-requires
unwrap-leaving-requires c = place_is_found c.self.inside.stored c.args.self c.self.inside.spots.items c.as_slice-2.result.now c.self.inside.spare c.args.row
    c.basic_place.result c.self.view_is c.self.invariant c.requires.not_last c.as_slice-2.ensures.value c.basic_place.ensures.none

pub pivot-requires-clause-not_first : goal.pivot-requires-clause-not_first
pivot-requires-clause-not_first c =
    let turn = turn_of c.args.self c.self.inside.stored c.lay_unit.new.self c.self.inside.spots.items c.as_slice.result.now c.as_slice-2.result.now c.args.row
    c.args.place c.unwrap-leaving.result c.in-Stored.slot c.self.inside.spare c.spot_at.result c.basic_place.result c.self.view_is c.self.invariant
    c.requires.not_last c.requires.not_first c.requires.within c.as_slice.ensures.value c.spot_at.ensures c.in-Stored.is c.as_slice-2.ensures.value
    c.unwrap-leaving.ensures c.basic_place.ensures.some c.lay_unit.ensures in
    slot_not_first _ _ _ _ _ _ _ _ _ turn

pub pivot-requires-clause-above : goal.pivot-requires-clause-above
pivot-requires-clause-above c =
    let turn = turn_of c.args.self c.self.inside.stored c.lay_unit.new.self c.self.inside.spots.items c.as_slice.result.now c.as_slice-2.result.now c.args.row
    c.args.place c.unwrap-leaving.result c.in-Stored.slot c.self.inside.spare c.spot_at.result c.basic_place.result c.self.view_is c.self.invariant
    c.requires.not_last c.requires.not_first c.requires.within c.as_slice.ensures.value c.spot_at.ensures c.in-Stored.is c.as_slice-2.ensures.value
    c.unwrap-leaving.ensures c.basic_place.ensures.some c.lay_unit.ensures in
    laid_above _ _ _ _ _ _ _ _ _ turn (subst (λ (t : Table). pos 0 <ℤ entry_of t c.args.row c.args.place) (sym c.self.view_is) c.requires.above)

pub pivot-requires-clause-whole : goal.pivot-requires-clause-whole
pivot-requires-clause-whole c =
    let turn = turn_of c.args.self c.self.inside.stored c.lay_unit.new.self c.self.inside.spots.items c.as_slice.result.now c.as_slice-2.result.now c.args.row
    c.args.place c.unwrap-leaving.result c.in-Stored.slot c.self.inside.spare c.spot_at.result c.basic_place.result c.self.view_is c.self.invariant
    c.requires.not_last c.requires.not_first c.requires.within c.as_slice.ensures.value c.spot_at.ensures c.in-Stored.is c.as_slice-2.ensures.value
    c.unwrap-leaving.ensures c.basic_place.ensures.some c.lay_unit.ensures in
    laid_whole _ _ _ _ _ _ _ _ _ turn (subst (λ (t : Table). AreWhole t c.args.row c.args.place) (sym c.self.view_is) c.requires.whole)

pub returns-in_err-stored-clause-wide : goal.returns-in_err-stored-clause-wide
returns-in_err-stored-clause-wide c =
    let turn = turn_of c.args.self c.self.inside.stored c.lay_unit.new.self c.self.inside.spots.items c.as_slice.result.now c.as_slice-2.result.now c.args.row
    c.args.place c.unwrap-leaving.result c.in-Stored.slot c.self.inside.spare c.spot_at.result c.basic_place.result c.self.view_is c.self.invariant
    c.requires.not_last c.requires.not_first c.requires.within c.as_slice.ensures.value c.spot_at.ensures c.in-Stored.is c.as_slice-2.ensures.value
    c.unwrap-leaving.ensures c.basic_place.ensures.some c.lay_unit.ensures in
    let p = err_from_is_err_and c.from_residual.result c.from_residual.ensures.1 in
    rw (p.1, p.2) (subst (λ (t : Table). AreWideEntries t c.in_err-stored.field-0.0.left c.in_err-stored.field-0.0.right) c.self.view_is
    (laid_wide _ _ _ _ _ _ _ _ _ turn _ _ c.in_err-stored.ensures.wide))

pub invariant_of-result-2 : goal.invariant_of-result-2
invariant_of-result-2 c =
    let turn = turn_of c.args.self c.self.inside.stored c.lay_unit.new.self c.self.inside.spots.items c.as_slice.result.now c.as_slice-2.result.now c.args.row
    c.args.place c.unwrap-leaving.result c.in-Stored.slot c.self.inside.spare c.spot_at.result c.basic_place.result c.self.view_is c.self.invariant
    c.requires.not_last c.requires.not_first c.requires.within c.as_slice.ensures.value c.spot_at.ensures c.in-Stored.is c.as_slice-2.ensures.value
    c.unwrap-leaving.ensures c.basic_place.ensures.some c.lay_unit.ensures in
    let pivot = c.in_ok-stored.ensures.made in
    spots_stay _ _ _ _ _ _ _ _ _ turn _ _ (pivot.rows ∙ turn.laid_is.shape.rows) (pivot.width ∙ turn.laid_is.shape.width)

pub returns-clause-made : goal.returns-clause-made
returns-clause-made c =
    let turn = turn_of c.args.self c.self.inside.stored c.lay_unit.new.self c.self.inside.spots.items c.as_slice.result.now c.as_slice-2.result.now c.args.row
    c.args.place c.unwrap-leaving.result c.in-Stored.slot c.self.inside.spare c.spot_at.result c.basic_place.result c.self.view_is c.self.invariant
    c.requires.not_last c.requires.not_first c.requires.within c.as_slice.ensures.value c.spot_at.ensures c.in-Stored.is c.as_slice-2.ensures.value
    c.unwrap-leaving.ensures c.basic_place.ensures.some c.lay_unit.ensures in
    subst (λ (t : Table). IsPivot c.args.row c.args.place t (shown c.in_ok-stored.stored
    (set (set c.self.inside.spots.items c.unwrap-leaving.result (Stored c.self.inside.spare)) c.args.place (Basic c.args.row)))) c.self.view_is
    (shown_turns _ _ _ _ _ _ _ _ _ turn c.in_ok-stored.stored
    (subst (λ (t : Table). pos 0 <ℤ entry_of t c.args.row c.args.place) (sym c.self.view_is) c.requires.above) c.in_ok-stored.ensures.made)
