-- Tables of which unit columns aren't stored: what they show, and how a pivot moves their columns.
use Rattle.std.proofs.Common.{◌≡◌, ◌≢◌, ◌⊎◌, ⊎_elim, inl, inr, ℕ, ◌+◌, ◌*◌, ◌/◌, ◌%◌, ◌<◌, ◌≤◌, ℤ, pos, ◌*ℤ◌, ◌-ℤ◌, ◌<ℤ◌, Bool, cond}
use Rattle.std.proofs.Common.{List, Option, None, Some, IfSome, IfNone, IsSome, length, set, arith, refl, ap, sym, subst, ◌∙◌, length-set, eq-eqb, ne_eqb}
use Rattle.std.proofs.Math.IntN.{*ℤ_comm}
use Rattle.std.proofs.lemmas.Int.{ints}
use Rattle.std.proofs.lemmas.List.{get_or-set_other, get_or-set_same}
use Rattle.std.proofs.lemmas.List.FromFn.{get_or-map-range_with_len}
use Rattle.std.proofs.lemmas.Nat.{div-mul-add, mod-mul-add}
use Rattle.wp_master.proofs.Entries.{same_exchange, within_rows}
use Rattle.wp_master.proofs.Exchanges.{same_kept}
use Rattle.wp_master.specs.Exchanges.{IsPut}
use Rattle.wp_master.specs.Pivots.{AreWhole, AreWideEntries, IsEntry, IsExchanged, IsPivot, Table, entry_of}
use Rattle.wp_master.specs.Spots.{AreMoved, AreSpots, IsLaid, IsNowhere, entry_at, shown, shown_entries, spot_of, unit_entry}
use Rattle.wp_master.specs.declared.spot.Spot.{Spot}
use Rattle.wp_master.specs.declared.spot.Spot.TheVariants.{Stored, Basic}

-- an entry that is shown is that of the column at its place's spot
pub shown_entry : (stored : Table) (spots : List Spot) (row place : ℕ) → row < stored.rows → place < length spots
    → entry_of (shown stored spots) row place ≡ entry_at stored row (spot_of spots place)
unfolding shown_entries
shown_entry stored spots row place low within =
    let w = length spots in
    get_or-map-range_with_len (λ (at : ℕ). entry_at stored (at / w) (spot_of spots (at % w))) 0 (stored.rows * w) (row * w + place) (row * w + place) (pos 0)
    (within_rows stored.rows w row place low within) (omega arith)
    ∙ ap (λ (n : ℕ). entry_at stored n (spot_of spots ((row * w + place) % w))) (div-mul-add row w place within)
    ∙ ap (λ (n : ℕ). entry_at stored row (spot_of spots n)) (mod-mul-add row w place within)

pub own_entry : (d : ℤ) (own row : ℕ) → row ≡ own → unit_entry d own row ≡ d
own_entry d own row e = ap (λ (b : Bool). cond b d (pos 0)) (eq-eqb row own e)

pub other_entry : (d : ℤ) (own row : ℕ) → row ≢ own → unit_entry d own row ≡ pos 0
other_entry d own row apart = ap (λ (b : Bool). cond b d (pos 0)) (ne_eqb row own apart)

is_or_not : (a b : ℕ) → (a ≡ b) ⊎ (a ≢ b)
is_or_not a b = grind arith

pub same_slot : (a b : ℕ) → Stored a ≡ Stored b → a ≡ b
same_slot a b e = cc

pub same_row : (a b : ℕ) → Basic a ≡ Basic b → a ≡ b
same_row a b e = cc

pub stored_or_basic : (a b : ℕ) → Stored a ≡ Basic b → ⊥
stored_or_basic a b e = absurd (cc)

-- two spots that are set
pub moved_is : (spots : List Spot) (row place leaving spare : ℕ) → place < length spots → leaving < length spots → leaving ≢ place
    → AreMoved spots row place leaving spare (set (set spots leaving (Stored spare)) place (Basic row))
moved_is spots row place leaving spare known within apart = record {
  count = length-set (set spots leaving (Stored spare)) place (Basic row) ∙ length-set spots leaving (Stored spare);
  comes = get_or-set_same (set spots leaving (Stored spare)) place (Basic row) (Stored 0) (omega (arith, known, length-set spots leaving (Stored spare)));
  leaves = get_or-set_other (set spots leaving (Stored spare)) place leaving (Basic row) (Stored 0) apart
      ∙ get_or-set_same spots leaving (Stored spare) (Stored 0) within;
  others = λ other not_place not_leaving. get_or-set_other (set spots leaving (Stored spare)) place other (Basic row) (Stored 0) not_place
      ∙ get_or-set_other spots leaving other (Stored spare) (Stored 0) not_leaving;
}

-- one row is laid
pub laid_more : (before now after : Table) (place own row : ℕ) (entry : ℤ) → place < before.width → IsLaid before place own row now
    → IsPut now row place entry after → entry ≡ unit_entry before.denominator own row → IsLaid before place own (row + 1) after
laid_more before now after place own row entry within is put new = record {
  shape = record {
    rows = put.shape.rows ∙ is.shape.rows;
    width = put.shape.width ∙ is.shape.width;
    denominator = put.shape.denominator ∙ is.shape.denominator;
  };
  done = λ i early low. ⊎_elim
      (λ (here : i ≡ row). subst (λ (n : ℕ). entry_of after n place ≡ unit_entry before.denominator own n) (sym here) (put.own ∙ new))
      (λ (apart : i ≢ row). put.other_rows i place (omega (arith, within, is.shape.width)) apart ∙ is.done i (omega (arith, early, apart)) low)
      (is_or_not i row);
  others = λ i j in_row apart. ⊎_elim
      (λ (here : i ≡ row). subst (λ (n : ℕ). entry_of after n j ≡ entry_of before n j) (sym here)
      (put.other_places j (omega (arith, in_row, is.shape.width)) apart ∙ is.others row j in_row apart))
      (λ (differ : i ≢ row). put.other_rows i j (omega (arith, in_row, is.shape.width)) differ ∙ is.others i j in_row apart)
      (is_or_not i row);
}

-- no row is laid yet
pub none_laid : (table : Table) (place own : ℕ) → IsLaid table place own 0 table
none_laid table place own = record {
  shape = record { rows = refl; width = refl; denominator = refl };
  done = λ row early low. absurd (omega (arith, early));
  others = λ row j in_row apart. refl;
}

-- an entry of a unit column of another row, before and after a pivot
unit_turns : (d p beside : ℤ) (own row i : ℕ) → own ≢ row → i ≢ row
    → d *ℤ unit_entry p own i ≡ (p *ℤ unit_entry d own i) -ℤ (beside *ℤ unit_entry d own row)
unit_turns d p beside own row i apart other =
    let none = other_entry d own row (λ e. apart (sym e)) in
    let right = ap (λ (x : ℤ). beside *ℤ x) none in
    ⊎_elim
    (λ (here : i ≡ own).
    let left = ap (λ (x : ℤ). d *ℤ x) (own_entry p own i here) ∙ *ℤ_comm d p ∙ ap (λ (x : ℤ). p *ℤ x) (sym (own_entry d own i here)) in
    omega (arith, ints, left, right))
    (λ (there : i ≢ own).
    let left = ap (λ (x : ℤ). d *ℤ x) (other_entry p own i there) in
    let middle = ap (λ (x : ℤ). p *ℤ x) (other_entry d own i there) in
    omega (arith, ints, left, middle, right))
    (is_or_not i own)

cleared : (d p beside : ℤ) → d *ℤ pos 0 ≡ (p *ℤ beside) -ℤ (beside *ℤ p)
cleared d p beside = omega (arith, ints, *ℤ_comm p beside)

-- A place becomes basic in a row, and the place that is basic there gets the spare slot.
pub record IsTurn (stored laid : Table) (spots after : List Spot) (row place leaving slot spare : ℕ) : Type 0 where
  pub known : AreSpots stored.rows stored.width spots spare
  pub moved : AreMoved spots row place leaving spare after
  pub comes : spot_of spots place ≡ Stored slot
  pub leaves : spot_of spots leaving ≡ Basic row
  pub place_known : place < length spots
  pub leaving_known : leaving < length spots
  pub not_last : row + 1 < stored.rows
  pub not_first : 1 ≤ place
  pub laid_is : IsLaid stored spare row stored.rows laid

-- the turn of a pivot on a table of which these columns are stored
pub turn_of : (table stored laid : Table) (spots seen looked : List Spot) (row place leaving slot spare : ℕ) (spot : Spot) (found : Option ℕ)
    → shown stored spots ≡ table → AreSpots stored.rows stored.width spots spare → row + 1 < table.rows → 1 ≤ place → place < table.width
    → seen ≡ spots → spot ≡ spot_of seen place → spot ≡ Stored slot → looked ≡ spots → found ≡ Some leaving
    → IfSome found (λ p. (p < length looked) × (spot_of looked p ≡ Basic row)) → IsLaid stored spare row stored.rows laid
    → IsTurn stored laid spots (set (set spots leaving (Stored spare)) place (Basic row)) row place leaving slot spare
turn_of table stored laid spots seen looked row place leaving slot spare spot found is known not_last not_first within saw there stands look some at laid_is =
    let place_known : place < length spots = subst (λ (t : Table). place < t.width) (sym is) within in
    let comes : spot_of spots place ≡ Stored slot = ap (λ (xs : List Spot). spot_of xs place) (sym saw) ∙ sym there ∙ stands in
    let gone : (leaving < length spots) × (spot_of spots leaving ≡ Basic row) =
    subst (λ (xs : List Spot). (leaving < length xs) × (spot_of xs leaving ≡ Basic row)) look
    (subst (λ (o : Option ℕ). IfSome o (λ p. (p < length looked) × (spot_of looked p ≡ Basic row))) some at) in
    record {
      known = known;
      moved = moved_is spots row place leaving spare place_known gone.0
          (λ e. stored_or_basic slot row (sym comes ∙ ap (spot_of spots) (sym e) ∙ gone.1));
      comes = comes;
      leaves = gone.1;
      place_known = place_known;
      leaving_known = gone.0;
      not_last = subst (λ (t : Table). row + 1 < t.rows) (sym is) not_last;
      not_first = not_first;
      laid_is = laid_is;
    }

module _ (stored laid : Table) (spots after : List Spot) (row place leaving slot spare : ℕ)
    (turn : IsTurn stored laid spots after row place leaving slot spare) where
  slot_known : (slot < stored.width) × (slot ≢ spare)
  slot_known = turn.known.stored_known place slot turn.place_known turn.comes

  leaving_apart : leaving ≢ place
  leaving_apart e = stored_or_basic slot row (sym turn.comes ∙ ap (spot_of spots) (sym e) ∙ turn.leaves)

  -- the slot of the place isn't the first
  pub slot_not_first : 1 ≤ slot
  slot_not_first = ⊎_elim
      (λ (none : slot ≡ 0).
      let first : place ≡ 0 = turn.known.distinct place 0 turn.place_known turn.known.filled (turn.comes ∙ ap Stored none ∙ sym turn.known.first) in
      absurd (omega (arith, first, turn.not_first)))
      (λ (some : slot ≢ 0). omega (arith, some))
      (is_or_not slot 0)

  -- a column that isn't at the spare slot is laid as it was
  at_laid : (i : ℕ) (at : Spot) → ((k : ℕ) → at ≡ Stored k → (k < stored.width) × (k ≢ spare)) → entry_at laid i at ≡ entry_at stored i at
  at_laid i (Stored k) is = let h = is k refl in turn.laid_is.others i k h.0 h.1
  at_laid i (Basic own) is = ap (λ (d : ℤ). unit_entry d own i) turn.laid_is.shape.denominator

  -- what is shown at a place but the pivot's is what is laid at its spot after the turn
  shown_laid : (i j : ℕ) → i < stored.rows → j < length spots → j ≢ place → entry_of (shown stored spots) i j ≡ entry_at laid i (spot_of after j)
  shown_laid i j low in_row apart = shown_entry stored spots i j low in_row ∙ ⊎_elim
      (λ (here : j ≡ leaving). ap (entry_at stored i) (ap (spot_of spots) here ∙ turn.leaves)
      ∙ sym (turn.laid_is.done i low low) ∙ ap (entry_at laid i) (sym turn.moved.leaves ∙ ap (spot_of after) (sym here)))
      (λ (other : j ≢ leaving). sym (at_laid i (spot_of spots j) (λ k e. turn.known.stored_known j k in_row e))
      ∙ ap (entry_at laid i) (sym (turn.moved.others j apart other)))
      (is_or_not j leaving)

  -- what is shown at the pivot's place is what is laid at its slot
  pub shown_pivot : (i : ℕ) → i < stored.rows → entry_of (shown stored spots) i place ≡ entry_of laid i slot
  shown_pivot i low = shown_entry stored spots i place low turn.place_known ∙ ap (entry_at stored i) turn.comes
      ∙ sym (turn.laid_is.others i slot slot_known.0 slot_known.1)

  -- each column that is laid is shown at some place
  laid_shown : (k : ℕ) → k < laid.width
      → (j : ℕ) × (j < length spots) × ((i : ℕ) → i < stored.rows → entry_of (shown stored spots) i j ≡ entry_of laid i k)
  laid_shown k known = ⊎_elim
      (λ (here : k ≡ spare). (
        leaving,
        turn.leaving_known,
        λ i low. shown_entry stored spots i leaving low turn.leaving_known ∙ ap (entry_at stored i) turn.leaves ∙ sym (turn.laid_is.done i low low)
            ∙ ap (entry_of laid i) (sym here),
      ))
      (λ (other : k ≢ spare).
      let in_row : k < stored.width = omega (arith, known, turn.laid_is.shape.width) in
      let at = turn.known.each_slot k in_row other in (
        at.0,
        at.1,
        λ i low. shown_entry stored spots i at.0 low at.1 ∙ ap (entry_at stored i) at.2 ∙ sym (turn.laid_is.others i k in_row other),
      ))
      (is_or_not k spare)

  row_known : row < stored.rows
  row_known = omega (arith, turn.not_last)

  -- the exchanges of what is laid are those of what is shown
  pub laid_whole : AreWhole (shown stored spots) row place → AreWhole laid row slot
  laid_whole whole = λ i k low other in_row.
      let under : i < stored.rows = omega (arith, low, turn.laid_is.shape.rows) in
      let at = laid_shown k in_row in
      let entry = whole i at.0 under other at.1 in (
        entry.0,
        ap (λ (d : ℤ). d *ℤ entry.0) turn.laid_is.shape.denominator ∙ entry.1
            ∙ same_exchange _ _ _ _ _ _ _ _ (shown_pivot row row_known) (at.2 i under) (shown_pivot i under) (at.2 row row_known),
      )

  laid_entry : (x : ℤ) → IsEntry laid x → IsEntry (shown stored spots) x
  laid_entry x is =
      let under : is.0 < stored.rows = omega (arith, is.2, turn.laid_is.shape.rows) in
      let at = laid_shown is.1 is.3 in
      (is.0, at.0, under, at.1, is.4 ∙ sym (at.2 is.0 under))

  -- factors that are too wide for what is laid are so for what is shown
  pub laid_wide : (left right : ℤ) → AreWideEntries laid left right → AreWideEntries (shown stored spots) left right
  laid_wide left right wide = record {
    left_entry = ⊎_elim (λ (e : IsEntry laid left). inl (laid_entry left e))
        (λ (e : (x : ℤ) × IsEntry laid x × (left ≡ pos 2 *ℤ x)). inr (e.0, laid_entry e.0 e.1, e.2)) wide.left_entry;
    right_entry = laid_entry right wide.right_entry;
    leaves = wide.leaves;
  }

  pub laid_above : pos 0 <ℤ entry_of (shown stored spots) row place → pos 0 <ℤ entry_of laid row slot
  laid_above above = subst (λ (x : ℤ). pos 0 <ℤ x) (shown_pivot row row_known) above

  -- the place alone becomes basic in the row
  only_place : (p : ℕ) → p < length spots → spot_of after p ≡ Basic row → p ≡ place
  only_place p known e = ⊎_elim (λ (here : p ≡ place). here)
      (λ (apart : p ≢ place). ⊎_elim
      (λ (there : p ≡ leaving). absurd (stored_or_basic spare row (sym turn.moved.leaves ∙ ap (spot_of after) (sym there) ∙ e)))
      (λ (other : p ≢ leaving). absurd (other (turn.known.distinct p leaving known turn.leaving_known
      (sym (turn.moved.others p apart other) ∙ e ∙ sym turn.leaves))))
      (is_or_not p leaving))
      (is_or_not p place)

  -- the place that leaves alone gets the spare slot
  only_leaving : (p : ℕ) → p < length spots → spot_of after p ≡ Stored spare → p ≡ leaving
  only_leaving p known e = ⊎_elim
      (λ (here : p ≡ place). absurd (stored_or_basic spare row (sym e ∙ ap (spot_of after) here ∙ turn.moved.comes)))
      (λ (apart : p ≢ place). ⊎_elim (λ (there : p ≡ leaving). there)
      (λ (other : p ≢ leaving). absurd ((turn.known.stored_known p spare known (sym (turn.moved.others p apart other) ∙ e)).1 refl))
      (is_or_not p leaving))
      (is_or_not p place)

  moved_stored : (p k : ℕ) → p < length spots → spot_of after p ≡ Stored k → (k < stored.width) × (k ≢ slot)
  moved_stored p k known e = ⊎_elim
      (λ (here : p ≡ place). absurd (stored_or_basic k row (sym e ∙ ap (spot_of after) here ∙ turn.moved.comes)))
      (λ (apart : p ≢ place). ⊎_elim
      (λ (there : p ≡ leaving).
      let same : spare ≡ k = same_slot spare k (sym turn.moved.leaves ∙ ap (spot_of after) (sym there) ∙ e) in
      (omega (arith, same, turn.known.spare_known), λ is. slot_known.1 (sym is ∙ sym same)))
      (λ (other : p ≢ leaving).
      let at = sym (turn.moved.others p apart other) ∙ e in (
        (turn.known.stored_known p k known at).0,
        λ is. apart (turn.known.distinct p place known turn.place_known (at ∙ ap Stored is ∙ sym turn.comes)),
      ))
      (is_or_not p leaving))
      (is_or_not p place)

  moved_basic : (p r : ℕ) → p < length spots → spot_of after p ≡ Basic r → r + 1 < stored.rows
  moved_basic p r known e = ⊎_elim
      (λ (here : p ≡ place).
      let same : row ≡ r = same_row row r (sym turn.moved.comes ∙ ap (spot_of after) (sym here) ∙ e) in omega (arith, same, turn.not_last))
      (λ (apart : p ≢ place). ⊎_elim
      (λ (there : p ≡ leaving). absurd (stored_or_basic spare r (sym turn.moved.leaves ∙ ap (spot_of after) (sym there) ∙ e)))
      (λ (other : p ≢ leaving). turn.known.basic_known p r known (sym (turn.moved.others p apart other) ∙ e))
      (is_or_not p leaving))
      (is_or_not p place)

  moved_distinct : (p q : ℕ) → p < length spots → q < length spots → spot_of after p ≡ spot_of after q → p ≡ q
  moved_distinct p q low known e = ⊎_elim
      (λ (here : p ≡ place). here ∙ sym (only_place q known (sym e ∙ ap (spot_of after) here ∙ turn.moved.comes)))
      (λ (apart : p ≢ place). ⊎_elim
      (λ (there : p ≡ leaving). there ∙ sym (only_leaving q known (sym e ∙ ap (spot_of after) there ∙ turn.moved.leaves)))
      (λ (other : p ≢ leaving). ⊎_elim
      (λ (here : q ≡ place). absurd (apart (only_place p low (e ∙ ap (spot_of after) here ∙ turn.moved.comes))))
      (λ (differ : q ≢ place). ⊎_elim
      (λ (there : q ≡ leaving). absurd (other (only_leaving p low (e ∙ ap (spot_of after) there ∙ turn.moved.leaves))))
      (λ (further : q ≢ leaving). turn.known.distinct p q low known
      (sym (turn.moved.others p apart other) ∙ e ∙ turn.moved.others q differ further))
      (is_or_not q leaving))
      (is_or_not q place))
      (is_or_not p leaving))
      (is_or_not p place)

  moved_slot : (k : ℕ) → k < stored.width → k ≢ slot → (p : ℕ) × (p < length after) × (spot_of after p ≡ Stored k)
  moved_slot k known apart = ⊎_elim
      (λ (here : k ≡ spare). (leaving, omega (arith, turn.leaving_known, turn.moved.count), turn.moved.leaves ∙ ap Stored (sym here)))
      (λ (other : k ≢ spare).
      let at = turn.known.each_slot k known other in (
        at.0,
        omega (arith, at.1, turn.moved.count),
        turn.moved.others at.0 (λ e. apart (same_slot k slot (sym at.2 ∙ ap (spot_of spots) e ∙ turn.comes)))
            (λ e. stored_or_basic k row (sym at.2 ∙ ap (spot_of spots) e ∙ turn.leaves)) ∙ at.2,
      ))
      (is_or_not k spare)

  moved_row : (r : ℕ) → r + 1 < stored.rows → (p : ℕ) × (p < length after) × (spot_of after p ≡ Basic r)
  moved_row r known = ⊎_elim
      (λ (here : r ≡ row). (place, omega (arith, turn.place_known, turn.moved.count), turn.moved.comes ∙ ap Basic (sym here)))
      (λ (other : r ≢ row).
      let at = turn.known.each_row r known in (
        at.0,
        omega (arith, at.1, turn.moved.count),
        turn.moved.others at.0 (λ e. stored_or_basic slot r (sym turn.comes ∙ ap (spot_of spots) (sym e) ∙ at.2))
            (λ e. other (same_row r row (sym at.2 ∙ ap (spot_of spots) e ∙ turn.leaves))) ∙ at.2,
      ))
      (is_or_not r row)

  -- the spots after a turn
  pub spots_stay : (rows slots : ℕ) → rows ≡ stored.rows → slots ≡ stored.width → AreSpots rows slots after slot
  spots_stay rows slots same wide = record {
    spare_known = omega (arith, slot_known.0, wide);
    filled = omega (arith, turn.known.filled, turn.moved.count);
    first = turn.moved.others 0 (λ e. omega (arith, e, turn.not_first))
        (λ e. stored_or_basic 0 row (sym turn.known.first ∙ ap (spot_of spots) e ∙ turn.leaves)) ∙ turn.known.first;
    stored_known = λ p k in_row at.
        let known = moved_stored p k (omega (arith, in_row, turn.moved.count)) at in (omega (arith, known.0, wide), known.1);
    basic_known = λ p r in_row at. let known = moved_basic p r (omega (arith, in_row, turn.moved.count)) at in omega (arith, known, same);
    distinct = λ p q in_row known e. moved_distinct p q (omega (arith, in_row, turn.moved.count)) (omega (arith, known, turn.moved.count)) e;
    each_slot = λ k known apart. moved_slot k (omega (arith, known, wide)) apart;
    each_row = λ r known. moved_row r (omega (arith, known, same));
  }

  -- a column that isn't that of the row, and what a pivot makes of it
  column_turns : (next : Table) → IsPivot row slot laid next → (at : Spot) → ((k : ℕ) → at ≡ Stored k → k < laid.width)
      → ((own : ℕ) → at ≡ Basic own → own ≢ row) → (i : ℕ) → i < laid.rows
      → (i ≡ row → entry_at next i at ≡ entry_at laid row at)
      × (i ≢ row → laid.denominator *ℤ entry_at next i at
      ≡ (entry_of laid row slot *ℤ entry_at laid i at) -ℤ (entry_of laid i slot *ℤ entry_at laid row at))
  column_turns next pivot (Stored k) fits apart i low =
      let entry = pivot.entries i k low (fits k refl) in (λ here. entry.stays here, λ other. entry.others other)
  column_turns next pivot (Basic own) fits apart i low = (
    λ here. other_entry next.denominator own i (λ e. apart own refl (sym e ∙ here))
        ∙ sym (other_entry laid.denominator own row (λ e. apart own refl (sym e))),
    λ other. ap (λ (x : ℤ). laid.denominator *ℤ unit_entry x own i) pivot.denominator
        ∙ unit_turns laid.denominator (entry_of laid row slot) (entry_of laid i slot) own row i (apart own refl) other,
  )

  -- an entry at the place that becomes basic
  place_turns : (next : Table) → IsPivot row slot laid next → (i : ℕ) → i < stored.rows
      → IsExchanged (shown stored spots) row place i place (entry_of (shown next after) i place)
  place_turns next pivot i low =
      let is = shown_entry next after i place (omega (arith, low, pivot.rows, turn.laid_is.shape.rows)) (omega (arith, turn.place_known, turn.moved.count))
      ∙ ap (entry_at next i) turn.moved.comes in
      record {
        stays = λ here. is ∙ own_entry next.denominator row i here ∙ pivot.denominator ∙ sym (shown_pivot row row_known);
        others = λ other. ap (λ (x : ℤ). stored.denominator *ℤ x) (is ∙ other_entry next.denominator row i other)
            ∙ cleared stored.denominator (entry_of (shown stored spots) row place) (entry_of (shown stored spots) i place);
      }

  -- an entry at another place
  other_turns : (next : Table) → IsPivot row slot laid next → (i j : ℕ) → i < stored.rows → j < length spots → j ≢ place
      → IsExchanged (shown stored spots) row place i j (entry_of (shown next after) i j)
  other_turns next pivot i j low in_row apart =
      let is = shown_entry next after i j (omega (arith, low, pivot.rows, turn.laid_is.shape.rows)) (omega (arith, in_row, turn.moved.count)) in
      let turns = column_turns next pivot (spot_of after j) (λ k e. omega (arith, (moved_stored j k in_row e).0, turn.laid_is.shape.width))
      (λ own e same. apart (only_place j in_row (e ∙ ap Basic same))) i (omega (arith, low, turn.laid_is.shape.rows)) in
      record {
        stays = λ here. is ∙ turns.0 here ∙ sym (shown_laid row j row_known in_row apart);
        others = λ other. ap (λ (x : ℤ). stored.denominator *ℤ x) is
            ∙ ap (λ (d : ℤ). d *ℤ entry_at next i (spot_of after j)) (sym turn.laid_is.shape.denominator) ∙ turns.1 other
            ∙ same_exchange _ _ _ _ _ _ _ _ (sym (shown_pivot row row_known)) (sym (shown_laid i j low in_row apart)) (sym (shown_pivot i low))
            (sym (shown_laid row j row_known in_row apart));
      }

  -- a pivot of what is laid is one of what is shown
  pub shown_turns : (next : Table) → pos 0 <ℤ entry_of (shown stored spots) row place → IsPivot row slot laid next
      → IsPivot row place (shown stored spots) (shown next after)
  shown_turns next above pivot = record {
    not_last = turn.not_last;
    not_first = turn.not_first;
    within = turn.place_known;
    above = above;
    rows = pivot.rows ∙ turn.laid_is.shape.rows;
    width = turn.moved.count;
    entries = λ i j low in_row. ⊎_elim
        (λ (here : j ≡ place). subst (λ (n : ℕ). IsExchanged (shown stored spots) row place i n (entry_of (shown next after) i n)) (sym here)
        (place_turns next pivot i low))
        (λ (apart : j ≢ place). other_turns next pivot i j low in_row apart)
        (is_or_not j place);
    denominator = pivot.denominator ∙ sym (shown_pivot row row_known);
  }

above_none : (x : ℤ) → pos 0 <ℤ x → x ≡ pos 0 → ⊥
above_none x some none = omega (arith, ints, some, none)

-- a pivot at a place that is basic changes nothing
pub basic_turns : (stored : Table) (spots : List Spot) (row place own : ℕ) → spot_of spots place ≡ Basic own → row + 1 < stored.rows → 1 ≤ place
    → place < length spots → pos 0 <ℤ entry_of (shown stored spots) row place → IsPivot row place (shown stored spots) (shown stored spots)
basic_turns stored spots row place own at not_last not_first within above =
    let unit = λ (i : ℕ) (low : i < stored.rows). shown_entry stored spots i place low within ∙ ap (entry_at stored i) at in
    let row_in : row < stored.rows = omega (arith, not_last) in
    let here : row ≡ own = ⊎_elim (λ (e : row ≡ own). e)
    (λ (apart : row ≢ own). absurd (above_none _ above (unit row row_in ∙ other_entry stored.denominator own row apart))) (is_or_not row own) in
    let pivot = unit row row_in ∙ own_entry stored.denominator own row here in
    record {
      not_last = not_last;
      not_first = not_first;
      within = within;
      above = above;
      rows = refl;
      width = refl;
      entries = λ i j low in_row. record {
        stays = λ e. ap (λ (n : ℕ). entry_of (shown stored spots) n j) e;
        others = λ other. same_kept _ _ _ _ _ pivot (unit i low ∙ other_entry stored.denominator own i (λ e. other (e ∙ sym here)));
      };
      denominator = sym pivot;
    }

-- some place is basic in each row but the last
pub place_is_found : (stored table : Table) (spots looked : List Spot) (spare row : ℕ) (found : Option ℕ) → shown stored spots ≡ table
    → AreSpots stored.rows stored.width spots spare → row + 1 < table.rows → looked ≡ spots
    → IfNone found (IsNowhere looked row (length looked)) → IsSome found
place_is_found stored table spots looked spare row None is known within look nowhere =
    let at = known.each_row row (subst (λ (t : Table). row + 1 < t.rows) (sym is) within) in
    let none = subst (λ (xs : List Spot). IsNowhere xs row (length xs)) look nowhere in
    absurd (none at.0 at.1 at.2)
place_is_found stored table spots looked spare row (Some place) is known within look nowhere = refl

-- the entry that a table tells
pub told_entry : (stored table : Table) (spots seen : List Spot) (row place : ℕ) (spot : Spot) → shown stored spots ≡ table → row < table.rows
    → place < table.width → seen ≡ spots → spot ≡ spot_of seen place → entry_at stored row spot ≡ entry_of table row place
told_entry stored table spots seen row place spot is low within saw there =
    let known : row < stored.rows = subst (λ (t : Table). row < t.rows) (sym is) low in
    let in_row : place < length spots = subst (λ (t : Table). place < t.width) (sym is) within in
    ap (entry_at stored row) (there ∙ ap (λ (xs : List Spot). spot_of xs place) saw) ∙ sym (shown_entry stored spots row place known in_row)
    ∙ ap (λ (t : Table). entry_of t row place) is
