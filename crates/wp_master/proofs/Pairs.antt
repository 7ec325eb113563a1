-- The pair that a risen table gives.
use Rattle.std.proofs.Common.{◌≡◌, ◌≢◌, ◌⊎◌, ⊎_elim, ℕ, ◌<◌, Bool, true, false, cond, eqb, List, length, ℤ, pos, negsuc, ◌+ℤ◌, ◌*ℤ◌, ◌<ℤ◌, ◌≤ℤ◌}
use Rattle.std.proofs.Common.{arith, ap, sym, subst, refl, ◌∙◌}
use Rattle.std.proofs.Math.IntN.{*ℤ_comm}
use Rattle.std.proofs.lemmas.Bool.Decides.{eqb_tells}
use Rattle.std.proofs.lemmas.Int.{ints}
use Rattle.wp_master.proofs.Entries.{one_times}
use Rattle.wp_master.proofs.Held.{IsOfColumn, IsOfOrder, column_or_order, held_entry, held_times, start_not_below}
use Rattle.wp_master.proofs.Sums.{total_most, total_of_sums, total_swapped, total_times}
use Rattle.wp_master.proofs.Totals.{no_total, one_total, same_total}
use Rattle.wp_master.specs.Bases.{basic_place, total_below}
use Rattle.wp_master.specs.Choices.{HasRisen}
use Rattle.wp_master.specs.Pairs.{AreLastRow, AreNumbers, CoverOrders, FitColumns, holds, length_of, load_of, number_at, sum_of}
use Rattle.wp_master.specs.Pivots.{Table, column_place, entry_of, last_row, order_place}
use Rattle.wp_master.specs.Pools.{ColumnPool, column_of}
use Rattle.wp_master.specs.Runs.{AreDuals, IsAbove, IsBasicDual, IsDual, IsFreeDual, IsPair, IsReached, IsReachedAtAll}

above_or_first : (at : ℕ) → (0 < at) ⊎ (at ≡ 0)
above_or_first at = grind arith

-- the first entry of a row above 0 isn't below 0
first_not_below : (table : Table) (row : ℕ) → IsAbove table row → pos 0 ≤ℤ entry_of table row 0
first_not_below table row one = ⊎_elim
    (λ (later : 0 < one.at). let none = one.before 0 later in omega (arith, ints, none))
    (λ (first : one.at ≡ 0).
    let more = subst (λ (j : ℕ). pos 0 <ℤ entry_of table row j) first one.above in omega (arith, ints, more))
    (above_or_first one.at)

-- a dual isn't below 0
dual_not_below : (pool : ColumnPool) (made : ℕ) (table : Table) (basis : List ℕ) (place : ℕ) (dual : ℤ) → IsReached pool made table basis
    → IsDual table basis place dual → pos 0 ≤ℤ dual
dual_not_below pool made table basis place dual is at = ⊎_elim
    (λ (basic : IsBasicDual table basis place dual). subst (λ (x : ℤ). pos 0 ≤ℤ x) (sym basic.first)
    (first_not_below table basic.row (is.above basic.row (omega (arith, basic.known, is.is_basis.count)))))
    (λ (free : IsFreeDual basis place dual). let none = free.none in omega (arith, ints, none)) at

-- the first entry of a row where it has a place in the basis, else 0
abbrev here_or_none : Table → List ℕ → ℕ → ℕ → ℤ
here_or_none table basis place row = cond (eqb (basic_place basis row) place) (entry_of table row 0) (pos 0)

at_same : (a b : ℕ) (x : ℤ) → a ≡ b → cond (eqb a b) x (pos 0) ≡ x
at_same a b x e = ⊎_elim (λ (same : (eqb a b ≡ true) × (a ≡ b)). ap (λ (t : Bool). cond t x (pos 0)) same.0)
    (λ (other : (eqb a b ≡ false) × (a ≢ b)). absurd (other.1 e)) (eqb_tells a b)

at_other : (a b : ℕ) (x : ℤ) → a ≢ b → cond (eqb a b) x (pos 0) ≡ pos 0
at_other a b x apart = ⊎_elim (λ (same : (eqb a b ≡ true) × (a ≡ b)). absurd (apart same.1))
    (λ (other : (eqb a b ≡ false) × (a ≢ b)). ap (λ (t : Bool). cond t x (pos 0)) other.0) (eqb_tells a b)

not_both : (d x : ℤ) → pos 0 <ℤ d → x ≡ d → x ≡ pos 0 → ⊥
not_both d x some e f = omega (arith, ints, some, e, f)

-- no two rows have one place in a basis
one_row : (pool : ColumnPool) (made : ℕ) (table : Table) (basis : List ℕ) (row other : ℕ) → IsReached pool made table basis → row < last_row pool
    → other < last_row pool → other ≢ row → basic_place basis other ≡ basic_place basis row → ⊥
one_row pool made table basis row other is low known apart same =
    not_both table.denominator (entry_of table row (basic_place basis row)) is.denominator (is.is_basis.own row low)
    (ap (λ (p : ℕ). entry_of table row p) (sym same) ∙ is.is_basis.others row other (omega (arith, low)) known (λ e. apart (sym e)))

-- a dual is the sum of what the rows have there
dual_is_total : (pool : ColumnPool) (made : ℕ) (table : Table) (basis : List ℕ) (place : ℕ) (dual : ℤ) → IsReached pool made table basis
    → IsDual table basis place dual → dual ≡ total_below (last_row pool) (here_or_none table basis place)
dual_is_total pool made table basis place dual is at = ⊎_elim
    (λ (basic : IsBasicDual table basis place dual).
    let low : basic.row < last_row pool = omega (arith, basic.known, is.is_basis.count) in
    basic.first ∙ sym (one_total (last_row pool) (here_or_none table basis place) basic.row low
    (λ k known apart. at_other _ _ _ (λ e. one_row pool made table basis basic.row k is low known apart (e ∙ sym basic.here)))
    ∙ at_same _ _ _ basic.here))
    (λ (free : IsFreeDual basis place dual). free.none ∙ sym (no_total (last_row pool) (here_or_none table basis place)
    (λ k known. at_other _ _ _ (free.apart k (omega (arith, known, is.is_basis.count)))))) at

-- the sum of factors times duals, by rows
total_by_rows : (pool : ColumnPool) (made : ℕ) (table : Table) (basis : List ℕ) (duals : List ℤ) (factor : ℕ → ℤ) → IsReached pool made table basis
    → AreDuals pool table basis duals
    → total_below pool.orders (λ order. factor order *ℤ number_at duals order)
    ≡ total_below (last_row pool) (λ row. total_below pool.orders (λ order. factor order *ℤ here_or_none table basis (order_place pool order) row))
total_by_rows pool made table basis duals factor is are =
    same_total pool.orders (λ order. factor order *ℤ number_at duals order)
    (λ order. total_below (last_row pool) (λ row. factor order *ℤ here_or_none table basis (order_place pool order) row))
    (λ order known. ap (λ (x : ℤ). factor order *ℤ x) (dual_is_total pool made table basis (order_place pool order) _ is (are order known))
    ∙ total_times (last_row pool) (factor order) (here_or_none table basis (order_place pool order)))
    ∙ total_swapped pool.orders (last_row pool) (λ order row. factor order *ℤ here_or_none table basis (order_place pool order) row)

times_none : (a x : ℤ) → x ≡ pos 0 → a *ℤ x ≡ pos 0
times_none a x e = ap (λ (t : ℤ). a *ℤ t) e ∙ omega (arith, ints)

-- what one row adds to that sum, where its place is an order's
row_of_order : (pool : ColumnPool) (table : Table) (basis : List ℕ) (factor : ℕ → ℤ) (row order : ℕ) → order < pool.orders
    → basic_place basis row ≡ order_place pool order
    → total_below pool.orders (λ k. factor k *ℤ here_or_none table basis (order_place pool k) row) ≡ factor order *ℤ entry_of table row 0
row_of_order pool table basis factor row order known here =
    one_total pool.orders (λ k. factor k *ℤ here_or_none table basis (order_place pool k) row) order known
    (λ k low apart. times_none _ _ (at_other _ _ _ (λ (e : basic_place basis row ≡ order_place pool k). apart (omega (arith, e, here)))))
    ∙ ap (λ (x : ℤ). factor order *ℤ x) (at_same _ _ _ here)

-- and where it is a column's
row_of_column : (pool : ColumnPool) (table : Table) (basis : List ℕ) (factor : ℕ → ℤ) (row column : ℕ) → column < last_row pool
    → basic_place basis row ≡ column_place column
    → total_below pool.orders (λ k. factor k *ℤ here_or_none table basis (order_place pool k) row) ≡ pos 0
row_of_column pool table basis factor row column known here =
    no_total pool.orders (λ k. factor k *ℤ here_or_none table basis (order_place pool k) row)
    (λ k low. times_none _ _ (at_other _ _ _ (λ (e : basic_place basis row ≡ order_place pool k). omega (arith, e, here, known))))

-- a column's entry at an order's place times the order's dual
load_entry : (b : Bool) (entry x : ℤ) → entry ≡ cond b (pos 1) (pos 0) → cond b x (pos 0) ≡ entry *ℤ x
load_entry b entry x e = sym (held_times b x entry e) ∙ *ℤ_comm x entry

load_by_rows : (pool : ColumnPool) (made : ℕ) (table : Table) (basis : List ℕ) (duals : List ℤ) (column : ℕ) → (is : IsReached pool made table basis)
    → AreDuals pool table basis duals → column < last_row pool
    → load_of pool duals column ≡ total_below (last_row pool)
    (λ row. total_below pool.orders (λ order. entry_of is.begun column (order_place pool order) *ℤ here_or_none table basis (order_place pool order) row))
load_by_rows pool made table basis duals column is are low =
    same_total pool.orders (λ order. cond (holds pool column order) (number_at duals order) (pos 0))
    (λ order. entry_of is.begun column (order_place pool order) *ℤ number_at duals order)
    (λ order known. load_entry (holds pool column order) _ _ (held_entry pool is.begun column order is.start low known))
    ∙ total_by_rows pool made table basis duals (λ order. entry_of is.begun column (order_place pool order)) is are

not_below_times : (a b : ℤ) → pos 0 ≤ℤ a → pos 0 ≤ℤ b → pos 0 ≤ℤ (a *ℤ b)
not_below_times (pos a) (pos b) some more = omega (arith, ints)
not_below_times (negsuc a) b some more = absurd (omega (arith, ints, some))
not_below_times (pos a) (negsuc b) some more = absurd (omega (arith, ints, more))

most_of_same : (a b : ℤ) → a ≡ b → a ≤ℤ b
most_of_same a b e = omega (arith, ints, e)

most_of_none : (a b : ℤ) → a ≡ pos 0 → pos 0 ≤ℤ b → a ≤ℤ b
most_of_none a b e some = omega (arith, ints, e, some)

-- what a row adds to a column's load is at most its part in the column's length
row_of_load : (pool : ColumnPool) (made : ℕ) (table : Table) (basis : List ℕ) (column row : ℕ) → (is : IsReached pool made table basis) → column < last_row pool
    → row < last_row pool
    → total_below pool.orders (λ order. entry_of is.begun column (order_place pool order) *ℤ here_or_none table basis (order_place pool order) row)
    ≤ℤ (entry_of is.begun column (basic_place basis row) *ℤ entry_of table row 0)
row_of_load pool made table basis column row is low known = ⊎_elim
    (λ (at : IsOfColumn pool (basic_place basis row)). most_of_none _ _
    (row_of_column pool table basis (λ order. entry_of is.begun column (order_place pool order)) row at.0 at.1 at.2)
    (not_below_times _ _ (start_not_below pool is.begun column (basic_place basis row) is.start low (is.is_basis.not_first row known)
    (is.is_basis.within row known)) (first_not_below table row (is.above row known))))
    (λ (at : IsOfOrder pool (basic_place basis row)). most_of_same _ _
    (row_of_order pool table basis (λ order. entry_of is.begun column (order_place pool order)) row at.0 at.1 at.2
    ∙ ap (λ (p : ℕ). entry_of is.begun column p *ℤ entry_of table row 0) (sym at.2)))
    (column_or_order pool (basic_place basis row) (is.is_basis.not_first row known) (is.is_basis.within row known))

load_most : (load rows total d s long : ℤ) → load ≡ rows → rows ≤ℤ total → d *ℤ s ≡ total → s ≡ long → load ≤ℤ (d *ℤ long)
load_most load rows total d s long e most f g = let same = ap (λ (x : ℤ). d *ℤ x) g in omega (arith, ints, e, most, f, same)

-- the duals give no column more than its length
duals_fit : (pool : ColumnPool) (made : ℕ) (table : Table) (basis : List ℕ) (duals : List ℤ) → IsReached pool made table basis
    → AreDuals pool table basis duals → FitColumns pool duals table.denominator
duals_fit pool made table basis duals is are = λ column low.
    load_most _ _ _ _ _ _ (load_by_rows pool made table basis duals column is are low)
    (total_most (last_row pool)
    (λ row. total_below pool.orders (λ order. entry_of is.begun column (order_place pool order) *ℤ here_or_none table basis (order_place pool order) row))
    (λ row. entry_of is.begun column (basic_place basis row) *ℤ entry_of table row 0)
    (λ row known. row_of_load pool made table basis column row is low known))
    (is.is_basis.columns column 0 low (omega arith))
    ((is.start.entries column 0 (omega (arith, low)) (omega arith)).long low refl)

none_and_none : (a s x : ℤ) → a ≡ pos 0 → s ≡ pos 0 → a +ℤ (s *ℤ x) ≡ pos 0
none_and_none a s x e f = let product = ap (λ (t : ℤ). t *ℤ x) f ∙ *ℤ_comm (pos 0) x in omega (arith, ints, e, product)

one_and_less : (a s x : ℤ) → a ≡ pos 1 *ℤ x → s ≡ negsuc 0 → a +ℤ (s *ℤ x) ≡ pos 0
one_and_less a s x e f = let product = ap (λ (t : ℤ). t *ℤ x) f ∙ *ℤ_comm (negsuc 0) x in let one = *ℤ_comm (pos 1) x in omega (arith, ints, e, product, one)

-- what a row adds to the sum of the duals is what it takes from the last row's first entry
row_of_sum : (pool : ColumnPool) (made : ℕ) (table : Table) (basis : List ℕ) (row : ℕ) → (is : IsReached pool made table basis) → row < last_row pool
    → total_below pool.orders (λ order. pos 1 *ℤ here_or_none table basis (order_place pool order) row)
    +ℤ (entry_of is.begun (last_row pool) (basic_place basis row) *ℤ entry_of table row 0) ≡ pos 0
row_of_sum pool made table basis row is known = ⊎_elim
    (λ (at : IsOfColumn pool (basic_place basis row)).
    let one = row_of_column pool table basis (λ order. pos 1) row at.0 at.1 at.2 in
    let entry = ap (λ (p : ℕ). entry_of is.begun (last_row pool) p) at.2
    ∙ (is.start.entries (last_row pool) (column_place at.0) (omega arith) (omega (arith, at.1))).last_columns at.0 refl at.1 refl in
    none_and_none _ _ _ one entry)
    (λ (at : IsOfOrder pool (basic_place basis row)).
    let one = row_of_order pool table basis (λ order. pos 1) row at.0 at.1 at.2 in
    let entry = ap (λ (p : ℕ). entry_of is.begun (last_row pool) p) at.2
    ∙ (is.start.entries (last_row pool) (order_place pool at.0) (omega arith) (omega (arith, at.1))).last_orders at.0 refl refl in
    one_and_less _ _ _ one entry)
    (column_or_order pool (basic_place basis row) (is.is_basis.not_first row known) (is.is_basis.within row known))

sum_and_less : (rows less both duals last d s : ℤ) → duals ≡ rows → both ≡ rows +ℤ less → both ≡ pos 0 → d *ℤ s ≡ last +ℤ less → s ≡ pos 0 → duals ≡ last
sum_and_less rows less both duals last d s e f g h none =
    let product = ap (λ (x : ℤ). d *ℤ x) none in omega (arith, ints, e, f, g, h, product)

-- the sum of the duals is the last row's first entry
sum_is_last : (pool : ColumnPool) (made : ℕ) (table : Table) (basis : List ℕ) (duals : List ℤ) → IsReached pool made table basis
    → AreDuals pool table basis duals → sum_of pool duals ≡ entry_of table (last_row pool) 0
sum_is_last pool made table basis duals is are =
    let rows = λ (row : ℕ). total_below pool.orders (λ order. pos 1 *ℤ here_or_none table basis (order_place pool order) row) in
    let less = λ (row : ℕ). entry_of is.begun (last_row pool) (basic_place basis row) *ℤ entry_of table row 0 in
    let ones = same_total pool.orders (number_at duals) (λ order. pos 1 *ℤ number_at duals order) (λ order known. sym (one_times (number_at duals order))) in
    sum_and_less (total_below (last_row pool) rows) (total_below (last_row pool) less) (total_below (last_row pool) (λ row. rows row +ℤ less row)) _ _
    table.denominator (entry_of is.begun (last_row pool) 0)
    (ones ∙ total_by_rows pool made table basis duals (λ order. pos 1) is are)
    (total_of_sums (last_row pool) rows less)
    (no_total (last_row pool) (λ row. rows row +ℤ less row) (λ row known. row_of_sum pool made table basis row is known))
    (is.is_basis.last 0 (omega arith))
    ((is.start.entries (last_row pool) 0 (omega arith) (omega arith)).last_first refl refl)

rest_dropped : (last d s sum : ℤ) → last ≡ (d *ℤ s) +ℤ sum → s ≡ pos 0 → sum ≡ last
rest_dropped last d s sum e none = let product = ap (λ (x : ℤ). d *ℤ x) none in omega (arith, ints, e, product)

times_both : (a b c d : ℤ) → a ≡ b → c ≡ d → b *ℤ c ≡ a *ℤ d
times_both a b c d e f = ap (λ (x : ℤ). x *ℤ c) (sym e) ∙ ap (λ (x : ℤ). a *ℤ x) f

-- and so are the lengths times the weights
length_is_last : (pool : ColumnPool) (made : ℕ) (table : Table) (basis : List ℕ) (weights : List ℤ) (denominator : ℤ) → IsReached pool made table basis
    → AreLastRow pool table weights denominator → length_of pool weights ≡ entry_of table (last_row pool) 0
length_is_last pool made table basis weights denominator is are =
    sym (same_total (last_row pool) (λ (column : ℕ). entry_of table (last_row pool) (column_place column) *ℤ entry_of is.begun column 0)
    (λ (column : ℕ). number_at weights column *ℤ pos (column_of pool column).length)
    (λ column low. times_both _ _ _ _ (are.entries column low) ((is.start.entries column 0 (omega (arith, low)) (omega arith)).long low refl)))
    ∙ rest_dropped _ table.denominator (entry_of is.begun (last_row pool) 0) _ (is.are_gathered.last 0 (omega arith))
    ((is.start.entries (last_row pool) 0 (omega arith) (omega arith)).last_first refl refl)

-- the duals have the sum of the lengths times the weights
sums_are_equal : (pool : ColumnPool) (made : ℕ) (table : Table) (basis : List ℕ) (weights duals : List ℤ) (denominator : ℤ)
    → IsReached pool made table basis → AreLastRow pool table weights denominator → AreDuals pool table basis duals
    → sum_of pool duals ≡ length_of pool weights
sums_are_equal pool made table basis weights duals denominator is last are =
    sum_is_last pool made table basis duals is are ∙ sym (length_is_last pool made table basis weights denominator is last)

cover_least : (last d s sum cover : ℤ) → last ≡ (d *ℤ s) +ℤ sum → s ≡ negsuc 0 → pos 0 ≤ℤ last → sum ≡ cover → d ≤ℤ cover
cover_least last d s sum cover e less some same =
    let product = ap (λ (x : ℤ). d *ℤ x) less in omega (arith, ints, e, product, some, same)

cover_entry : (b : Bool) (w entry s : ℤ) → w ≡ entry → s ≡ cond b (pos 1) (pos 0) → entry *ℤ s ≡ cond b w (pos 0)
cover_entry b w entry s e f = ap (λ (x : ℤ). x *ℤ s) (sym e) ∙ held_times b w s f

-- the weights cover each order
weights_cover : (pool : ColumnPool) (made : ℕ) (table : Table) (basis : List ℕ) (weights : List ℤ) (denominator : ℤ) → IsReached pool made table basis
    → HasRisen table → AreLastRow pool table weights denominator → CoverOrders pool weights table.denominator
weights_cover pool made table basis weights denominator is risen are = λ order known.
    let place = order_place pool order in
    cover_least _ table.denominator (entry_of is.begun (last_row pool) place) _ _ (is.are_gathered.last place (omega (arith, known)))
    ((is.start.entries (last_row pool) place (omega arith) (omega (arith, known))).last_orders order refl refl)
    (risen (last_row pool) place is.rows (omega arith) (omega (arith, known, is.width)))
    (same_total (last_row pool) (λ (column : ℕ). entry_of table (last_row pool) (column_place column) *ℤ entry_of is.begun column place)
    (λ (column : ℕ). cond (holds pool column order) (number_at weights column) (pos 0))
    (λ column low. cover_entry (holds pool column order) _ _ _ (are.entries column low) (held_entry pool is.begun column order is.start low known)))

-- no weight is below 0
weights_not_below : (pool : ColumnPool) (made : ℕ) (table : Table) (basis : List ℕ) (weights : List ℤ) (denominator : ℤ)
    → IsReached pool made table basis → HasRisen table → AreLastRow pool table weights denominator → length weights ≡ last_row pool
    → AreNumbers (last_row pool) weights
weights_not_below pool made table basis weights denominator is risen are count = record {
  count = count;
  not_below = λ column low. subst (λ (x : ℤ). pos 0 ≤ℤ x) (sym (are.entries column low))
      (risen (last_row pool) (column_place column) is.rows (omega arith) (omega (arith, low, is.width)));
}

-- no dual is below 0
duals_not_below : (pool : ColumnPool) (made : ℕ) (table : Table) (basis : List ℕ) (duals : List ℤ) → IsReached pool made table basis
    → AreDuals pool table basis duals → length duals ≡ pool.orders → AreNumbers pool.orders duals
duals_not_below pool made table basis duals is are count = record {
  count = count;
  not_below = λ order known. dual_not_below pool made table basis (order_place pool order) _ is (are order known);
}

-- a risen table gives a pair
pub pair_is : (pool : ColumnPool) (table : Table) (basis : List ℕ) (weights duals : List ℤ) (denominator : ℤ) → IsReachedAtAll pool table basis → HasRisen table
    → denominator ≡ table.denominator → length weights ≡ last_row pool → AreLastRow pool table weights table.denominator
    → length duals ≡ pool.orders → AreDuals pool table basis duals → IsPair pool table weights duals denominator
pair_is pool table basis weights duals denominator (made, is) risen same many last count are = record {
  above = subst (λ (x : ℤ). pos 0 <ℤ x) (sym same) is.denominator;
  are_weights = weights_not_below pool made table basis weights table.denominator is risen last many;
  are_duals = duals_not_below pool made table basis duals is are count;
  cover = subst (CoverOrders pool weights) (sym same) (weights_cover pool made table basis weights table.denominator is risen last);
  fit = subst (FitColumns pool duals) (sym same) (duals_fit pool made table basis duals is are);
  equal = sums_are_equal pool made table basis weights duals table.denominator is last are;
  last = record { same = same; entries = last.entries };
}
