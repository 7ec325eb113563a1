-- Where each order is held, a row leaves at each place.
use Rattle.std.proofs.Common.{◌≡◌, ⊎_elim, ℕ, ◌<◌, ◌≤◌, List, None, ℤ, pos, ◌*ℤ◌, ◌<ℤ◌, ◌≤ℤ◌, Contains, arith, ap, sym, subst, refl, ◌∙◌}
use Rattle.std.proofs.Math.IntN.{*ℤ_comm}
use Rattle.std.proofs.lemmas.Int.{by_lt_z, ints}
use Rattle.std.proofs.lemmas.List.{get_or_default}
use Rattle.wp_master.proofs.Above.{less_below_times}
use Rattle.wp_master.proofs.Held.{IsOfColumn, IsOfOrder, column_or_order, start_not_below}
use Rattle.wp_master.proofs.Starts.{one_at_own}
use Rattle.wp_master.proofs.Sums.{total_most}
use Rattle.wp_master.proofs.Totals.{no_total}
use Rattle.wp_master.specs.Bases.{basic_place, total_below}
use Rattle.wp_master.specs.Choices.{IsLeaving}
use Rattle.wp_master.specs.Pivots.{IsStart, Table, entry_of, last_row, order_place, places}
use Rattle.wp_master.specs.Pools.{AreCovered, ColumnPool, column_of}
use Rattle.wp_master.specs.Runs.{IsReached}
use Rattle.wp_master.specs.declared.column.Column.{Column}

-- each place but the first has 1 in some row of a column
one_somewhere : (pool : ColumnPool) (table : Table) (place : ℕ) → IsStart pool table → AreCovered pool pool.orders → 1 ≤ place → place < places pool
    → (row : ℕ) × (row < last_row pool) × (entry_of table row place ≡ pos 1)
one_somewhere pool table place start covered some within = ⊎_elim
    (λ (at : IsOfColumn pool place). (at.0, at.1, ap (λ (p : ℕ). entry_of table at.0 p) at.2 ∙ one_at_own pool table at.0 start at.1))
    (λ (at : IsOfOrder pool place).
    let held = covered at.0 at.1 in
    let row = held.1.0 in
    let low : row < last_row pool = held.1.1 in
    let is : column_of pool row ≡ held.0 = get_or_default pool.columns row _ held.0 low ∙ held.1.2 in (
      row,
      low,
      ap (λ (p : ℕ). entry_of table row p) at.2
          ∙ (start.entries row (order_place pool at.0) (omega (arith, low)) (omega (arith, at.1))).held at.0 low refl
          (subst (λ (c : Column). Contains c.batch at.0) (sym is) held.2),
    ))
    (column_or_order pool place some within)

not_above_times : (a b : ℤ) → pos 0 ≤ℤ a → b ≤ℤ pos 0 → (a *ℤ b) ≤ℤ pos 0
not_above_times a b most least = by_lt_z b (pos 0)
    (λ (less : b <ℤ pos 0). by_lt_z (pos 0) a
    (λ (more : pos 0 <ℤ a). let product = less_below_times b a less more in omega (arith, ints, product, *ℤ_comm a b))
    (λ (none : a ≤ℤ pos 0). let zero : a ≡ pos 0 = omega (arith, ints, none, most) in
    let product = ap (λ (t : ℤ). t *ℤ b) zero ∙ *ℤ_comm (pos 0) b in omega (arith, ints, product)))
    (λ (none : pos 0 ≤ℤ b). let zero : b ≡ pos 0 = omega (arith, ints, none, least) in
    let product = ap (λ (t : ℤ). a *ℤ t) zero in omega (arith, ints, product))

not_one : (d s total : ℤ) → pos 0 <ℤ d → d *ℤ s ≡ total → total ≤ℤ pos 0 → s ≡ pos 1 → ⊥
not_one d s total some is most one = let product = ap (λ (t : ℤ). d *ℤ t) one in omega (arith, ints, some, is, most, product)

total_not_above : (n : ℕ) (f : ℕ → ℤ) → ((k : ℕ) → k < n → f k ≤ℤ pos 0) → total_below n f ≤ℤ pos 0
total_not_above n f each =
    let most = total_most n f (λ k. pos 0) each in
    let none = no_total n (λ k. pos 0) (λ k low. refl) in
    omega (arith, ints, most, none)

not_above : (x : ℤ) → (pos 0 <ℤ x → ⊥) → x ≤ℤ pos 0
not_above x none = by_lt_z (pos 0) x (λ (l : pos 0 <ℤ x). absurd (none l)) (λ (m : x ≤ℤ pos 0). m)

-- where each order is held, some row of a reached table has an entry above 0 at a place
pub some_row_leaves : (pool : ColumnPool) (made : ℕ) (table : Table) (basis : List ℕ) (place : ℕ) → IsReached pool made table basis
    → AreCovered pool pool.orders → 1 ≤ place → place < table.width → IsLeaving table place (last_row pool) None → ⊥
some_row_leaves pool made table basis place is covered some within none =
    let in_row : place < places pool = omega (arith, within, is.width) in
    let one = one_somewhere pool is.begun place is.start covered some in_row in
    not_one table.denominator (entry_of is.begun one.0 place) _ is.denominator (is.is_basis.columns one.0 place one.1 in_row)
    (total_not_above (last_row pool) (λ (k : ℕ). entry_of is.begun one.0 (basic_place basis k) *ℤ entry_of table k place)
    (λ k low. not_above_times _ _ (start_not_below pool is.begun one.0 (basic_place basis k) is.start one.1 (is.is_basis.not_first k low)
    (is.is_basis.within k low)) (not_above _ (none k low)))) one.2
