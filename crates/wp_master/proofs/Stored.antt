-- The start table, of which the columns' places aren't stored.
use Rattle.std.proofs.Common.{◌≡◌, ◌≢◌, ◌⊎◌, ⊎_elim, ℕ, ◌+◌, ◌-◌, ◌<◌, ◌≤◌, ℤ, pos, Bool, cond, eqb, ne_eqb}
use Rattle.std.proofs.Common.{List, length, arith, refl, ap, sym, subst, ◌∙◌}
use Rattle.wp_master.proofs.Entries.{by_row}
use Rattle.wp_master.proofs.Held.{IsOfColumn, IsOfOrder, column_or_order}
use Rattle.wp_master.proofs.Spots.{other_entry, own_entry, same_row, same_slot, shown_entry, stored_or_basic}
use Rattle.wp_master.specs.Pivots.{IsStart, IsStartEntry, IsTable, Table, column_place, entry_of, last_row, order_place, places}
use Rattle.wp_master.specs.Pools.{ColumnPool}
use Rattle.wp_master.specs.Spots.{AreSpots, AreStartSpots, AreStoredStarts, IsStartSpot, IsStoredStart, entry_at, shown, spot_of, unit_entry}
use Rattle.wp_master.specs.declared.spot.Spot.{Spot}
use Rattle.wp_master.specs.declared.spot.Spot.TheVariants.{Stored, Basic}

is_or_not : (a b : ℕ) → (a ≡ b) ⊎ (a ≢ b)
is_or_not a b = grind arith

-- the entry of a row at the place of a column is that of the unit column of the column's row
unit_starts : (pool : ColumnPool) (row column : ℕ) → row ≤ last_row pool → column < last_row pool
    → IsStartEntry pool row (column_place column) (unit_entry (pos 1) column row)
unit_starts pool row column high known = record {
  long = λ low first. absurd (omega (arith, first));
  own = λ low at. own_entry (pos 1) column row (omega (arith, at));
  others = λ other low within apart at. other_entry (pos 1) column row (λ e. apart (omega (arith, at, e)));
  held = λ order low at has. absurd (omega (arith, at, known));
  unheld = λ order low at has. absurd (omega (arith, at, known));
  last_first = λ last first. absurd (omega (arith, first));
  last_columns = λ other last within at. other_entry (pos 1) column row (λ e. omega (arith, e, last, known));
  last_orders = λ order last at. absurd (omega (arith, at, known));
}

-- the three kinds of places
data Kind (pool : ColumnPool) (place : ℕ) : Type 0 where
  of_length : place ≡ 0 → Kind pool place
  of_column : (column : ℕ) → column < last_row pool → place ≡ column_place column → Kind pool place
  of_order : (order : ℕ) → order < pool.orders → place ≡ order_place pool order → Kind pool place

kind_of : (pool : ColumnPool) (place : ℕ) → place < places pool → Kind pool place
kind_of pool place within = ⊎_elim (λ (first : place ≡ 0). of_length first)
    (λ (later : place ≢ 0). ⊎_elim
    (λ (at : IsOfColumn pool place). of_column at.0 at.1 at.2)
    (λ (at : IsOfOrder pool place). of_order at.0 at.1 at.2)
    (column_or_order pool place (omega (arith, later)) within))
    (is_or_not place 0)

-- the place of a spot in the start table
abbrev place_at : ColumnPool → Spot → ℕ
place_at pool (Stored slot) = cond (eqb slot 0) 0 (last_row pool + slot)
place_at pool (Basic row) = row + 1

-- What the start table stores.
pub record IsStored (pool : ColumnPool) (grid : Table) (spots : List Spot) : Type 0 where
  pub table : IsTable grid
  pub rows : grid.rows ≡ last_row pool + 1
  pub width : grid.width ≡ pool.orders + 2
  pub denominator : grid.denominator ≡ pos 1
  pub each : AreStoredStarts pool grid.width grid.entries
  pub count : length spots ≡ places pool
  pub spots_are : AreStartSpots pool spots

module _ (pool : ColumnPool) (grid : Table) (spots : List Spot) (is : IsStored pool grid spots) where
  spot_at : (place : ℕ) → place < places pool → IsStartSpot pool place (spot_of spots place)
  spot_at place within = is.spots_are place (omega (arith, within, is.count))

  stored_at : (row slot : ℕ) → row < grid.rows → slot < grid.width → IsStoredStart pool row slot (entry_of grid row slot)
  stored_at row slot low within = by_row (IsStoredStart pool) grid.rows grid.width grid.entries is.table.count is.each row slot low within

  at_kind : (row place : ℕ) → row < grid.rows → place < places pool → Kind pool place
      → IsStartEntry pool row place (entry_at grid row (spot_of spots place))
  at_kind row place low within (of_length first) =
      subst (λ (at : Spot). IsStartEntry pool row place (entry_at grid row at)) (sym ((spot_at place within).first first))
      (subst (λ (p : ℕ). IsStartEntry pool row p (entry_of grid row 0)) (sym first)
      ((stored_at row 0 low (omega (arith, is.width))).first refl))
  at_kind row place low within (of_column column known at) =
      subst (λ (s : Spot). IsStartEntry pool row place (entry_at grid row s)) (sym ((spot_at place within).columns column known at))
      (subst (λ (p : ℕ). IsStartEntry pool row p (unit_entry grid.denominator column row)) (sym at)
      (subst (λ (d : ℤ). IsStartEntry pool row (column_place column) (unit_entry d column row)) (sym is.denominator)
      (unit_starts pool row column (omega (arith, low, is.rows)) known)))
  at_kind row place low within (of_order order known at) =
      subst (λ (s : Spot). IsStartEntry pool row place (entry_at grid row s)) (sym ((spot_at place within).orders order known at))
      (subst (λ (p : ℕ). IsStartEntry pool row p (entry_of grid row (order + 1))) (sym at)
      ((stored_at row (order + 1) low (omega (arith, is.width, known))).orders order known refl))

  pub stored_starts : IsStart pool (shown grid spots)
  stored_starts = record {
    rows = is.rows;
    width = is.count;
    entries = λ row place high within.
        let low : row < grid.rows = omega (arith, high, is.rows) in
        subst (IsStartEntry pool row place) (sym (shown_entry grid spots row place low (omega (arith, within, is.count))))
        (at_kind row place low within (kind_of pool place within));
    denominator = is.denominator;
  }

  stored_kind : (place slot : ℕ) → place < places pool → spot_of spots place ≡ Stored slot → Kind pool place → (slot < grid.width) × (slot ≢ pool.orders + 1)
  stored_kind place slot within e (of_length first) =
      let same : 0 ≡ slot = same_slot 0 slot (sym ((spot_at place within).first first) ∙ e) in
      (omega (arith, same, is.width), λ spare. omega (arith, same, spare))
  stored_kind place slot within e (of_column column known at) =
      absurd (stored_or_basic slot column (sym e ∙ (spot_at place within).columns column known at))
  stored_kind place slot within e (of_order order known at) =
      let same : order + 1 ≡ slot = same_slot (order + 1) slot (sym ((spot_at place within).orders order known at) ∙ e) in
      (omega (arith, same, is.width, known), λ spare. omega (arith, same, spare, known))

  basic_kind : (place row : ℕ) → place < places pool → spot_of spots place ≡ Basic row → Kind pool place → row + 1 < grid.rows
  basic_kind place row within e (of_length first) = absurd (stored_or_basic 0 row (sym ((spot_at place within).first first) ∙ e))
  basic_kind place row within e (of_column column known at) =
      let same : column ≡ row = same_row column row (sym ((spot_at place within).columns column known at) ∙ e) in
      omega (arith, same, known, is.rows)
  basic_kind place row within e (of_order order known at) =
      absurd (stored_or_basic (order + 1) row (sym ((spot_at place within).orders order known at) ∙ e))

  place_kind : (place : ℕ) → place < places pool → Kind pool place → place_at pool (spot_of spots place) ≡ place
  place_kind place within (of_length first) = ap (place_at pool) ((spot_at place within).first first) ∙ sym first
  place_kind place within (of_column column known at) = ap (place_at pool) ((spot_at place within).columns column known at) ∙ omega (arith, at)
  place_kind place within (of_order order known at) = ap (place_at pool) ((spot_at place within).orders order known at)
      ∙ ap (λ (b : Bool). cond b 0 (last_row pool + (order + 1))) (ne_eqb (order + 1) 0 (λ e. omega (arith, e))) ∙ omega (arith, at)

  pub stored_spots : (rows slots spare : ℕ) → rows ≡ grid.rows → slots ≡ grid.width → spare ≡ pool.orders + 1 → AreSpots rows slots spots spare
  stored_spots rows slots spare same wide last = record {
    spare_known = omega (arith, last, wide, is.width);
    filled = omega (arith, is.count);
    first = (spot_at 0 (omega arith)).first refl;
    stored_known = λ place slot known e.
        let within : place < places pool = omega (arith, known, is.count) in
        let at = stored_kind place slot within e (kind_of pool place within) in (omega (arith, at.0, wide), λ here. at.1 (here ∙ last));
    basic_known = λ place row known e.
        let within : place < places pool = omega (arith, known, is.count) in
        omega (arith, same, basic_kind place row within e (kind_of pool place within));
    distinct = λ place other known under e.
        let within : place < places pool = omega (arith, known, is.count) in
        let in_row : other < places pool = omega (arith, under, is.count) in
        sym (place_kind place within (kind_of pool place within)) ∙ ap (place_at pool) e ∙ place_kind other in_row (kind_of pool other in_row);
    each_slot = λ slot known apart. ⊎_elim
        (λ (first : slot ≡ 0). (0, omega (arith, is.count), (spot_at 0 (omega arith)).first refl ∙ ap Stored (sym first)))
        (λ (later : slot ≢ 0).
        let order : slot - 1 < pool.orders = omega (arith, known, later, wide, is.width, λ (e : slot ≡ pool.orders + 1). apart (e ∙ sym last)) in (
          order_place pool (slot - 1),
          omega (arith, order, is.count),
          (spot_at (order_place pool (slot - 1)) (omega (arith, order))).orders (slot - 1) order refl ∙ ap Stored (omega (arith, later)),
        ))
        (is_or_not slot 0);
    each_row = λ row known. (
      column_place row,
      omega (arith, known, same, is.rows, is.count),
      (spot_at (column_place row) (omega (arith, known, same, is.rows))).columns row (omega (arith, known, same, is.rows)) refl,
    );
  }
