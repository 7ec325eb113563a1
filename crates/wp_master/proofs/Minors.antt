-- Minors of a start table: tables that pivots lead to have them as entries, so each exchange is a multiple of the denominator (Edmonds, 1967; Bareiss, 1968).
use Rattle.std.proofs.Common.{◌≡◌, ◌≢◌, ⊎_elim, ℕ, zero, suc, ◌+◌, ◌<◌, ◌≤◌, List, [], ◌∷◌, length, set, slice_index, cond, Bool, ℤ, pos, ◌+ℤ◌, ◌-ℤ◌}
use Rattle.std.proofs.Common.{◌*ℤ◌, ◌<ℤ◌, arith, ap, refl, sym, subst, ◌∙◌, eq-eqb, ne_eqb}
use Rattle.std.proofs.lemmas.Bool.{cases_eq}
use Rattle.std.proofs.lemmas.List.{set-set}
use Rattle.std.proofs.Math.IntN.{*ℤ_comm}
use Rattle.wp_master.proofs.Determinants.{alternates, column_in, linear, triangular}
use Rattle.wp_master.proofs.Ratios.{same_over}
use Rattle.wp_master.proofs.Rings.{last_in, last_out, no_times, one_times}
use Rattle.wp_master.proofs.Replaced.{exchanged_columns, replaced_column}
use Rattle.wp_master.proofs.Totals.{one_total, same_total}
use Rattle.wp_master.specs.Bases.{IsBasis, total_below, combined, basic_place}
use Rattle.wp_master.specs.Minors.{AreMinors, Columns, basic_columns, column_at, minor, unit_column}
use Rattle.wp_master.specs.Pivots.{AreWhole, IsPivot, IsStart, Table, column_place, entry_of, exchange_of, last_row, places}
use Rattle.wp_master.specs.Pools.{ColumnPool}

own_unit : (own row : ℕ) → row ≡ own → unit_column own row ≡ pos 1
own_unit own row e = ap (λ (b : Bool). cond b (pos 1) (pos 0)) (eq-eqb row own e)

other_unit : (own row : ℕ) → row ≢ own → unit_column own row ≡ pos 0
other_unit own row other = ap (λ (b : Bool). cond b (pos 1) (pos 0)) (ne_eqb row own other)

many_basic : (pool : ColumnPool) (begun : Table) (basis : List ℕ) → length (basic_columns pool begun basis) ≡ suc (length basis)
unfolding basic_columns
many_basic pool begun [] = refl
many_basic pool begun (place ∷ basis) = ap suc (many_basic pool begun basis)

at_basic : (pool : ColumnPool) (begun : Table) (basis : List ℕ) (t : ℕ) → t < length basis
    → column_in (basic_columns pool begun basis) t ≡ column_at begun (basic_place basis t)
unfolding basic_columns
at_basic pool begun [] t low = absurd (omega (arith, low))
at_basic pool begun (place ∷ basis) zero low = refl
at_basic pool begun (place ∷ basis) (suc t) low = at_basic pool begun basis t (omega (arith, low))

at_last : (pool : ColumnPool) (begun : Table) (basis : List ℕ) → column_in (basic_columns pool begun basis) (length basis) ≡ unit_column (last_row pool)
unfolding basic_columns
at_last pool begun [] = refl
at_last pool begun (place ∷ basis) = at_last pool begun basis

set_basic : (pool : ColumnPool) (begun : Table) (basis : List ℕ) (row place : ℕ) → row < length basis
    → basic_columns pool begun (set basis row place) ≡ set (basic_columns pool begun basis) row (column_at begun place)
unfolding basic_columns
set_basic pool begun [] row place low = absurd (omega (arith, low))
set_basic pool begun (first ∷ basis) zero place low = refl
set_basic pool begun (first ∷ basis) (suc row) place low =
    ap (λ (t : Columns). column_at begun first ∷ t) (set_basic pool begun basis row place (omega (arith, low)))

-- what the basic columns have in a row, each times the entry of its row at a place, together
abbrev basic_total : ColumnPool → Table → Table → List ℕ → ℕ → ℕ → ℤ
basic_total pool begun table basis place row =
    total_below (length (basic_columns pool begun basis)) (λ (t : ℕ). column_in (basic_columns pool begun basis) t row *ℤ entry_of table t place)

with_last : (pool : ColumnPool) (begun table : Table) (basis : List ℕ) → length basis ≡ last_row pool → (place row : ℕ)
    → combined pool begun table basis row place +ℤ (unit_column (last_row pool) row *ℤ entry_of table (last_row pool) place)
    ≡ basic_total pool begun table basis place row
unfolding total_below
with_last pool begun table basis count place row =
    let columns = basic_columns pool begun basis in
    let last = last_row pool in
    let term : ℕ → ℤ = λ (t : ℕ). column_in columns t row *ℤ entry_of table t place in
    ap (λ (s : ℤ). s +ℤ (unit_column last row *ℤ entry_of table last place))
    (same_total last (λ (t : ℕ). entry_of begun row (basic_place basis t) *ℤ entry_of table t place) term
    (λ t low. ap (λ (v : ℕ → ℤ). v row *ℤ entry_of table t place) (sym (at_basic pool begun basis t (omega (arith, low, count))))))
    ∙ ap (λ (v : ℕ → ℤ). total_below last term +ℤ (v row *ℤ entry_of table last place))
    (sym (at_last pool begun basis) ∙ ap (column_in columns) count)
    ∙ ap (λ (n : ℕ). total_below n term) (sym (many_basic pool begun basis ∙ ap suc count))

-- a table's column times the denominator is the sum of the basic columns, each times the entry of its row
column_sum : (pool : ColumnPool) (begun table : Table) (basis : List ℕ) → IsBasis pool begun table basis → (place : ℕ) → place < places pool
    → (row : ℕ) → row < suc (last_row pool) → table.denominator *ℤ column_at begun place row ≡ basic_total pool begun table basis place row
column_sum pool begun table basis is_basis place within row low = ⊎_elim
    (λ (e : row ≡ last_row pool). subst (λ (n : ℕ). table.denominator *ℤ column_at begun place n ≡ basic_total pool begun table basis place n) (sym e)
    (is_basis.last place within
    ∙ last_in (combined pool begun table basis (last_row pool) place) (unit_column (last_row pool) (last_row pool)) (entry_of table (last_row pool) place)
    (own_unit (last_row pool) (last_row pool) refl)
    ∙ with_last pool begun table basis is_basis.count place (last_row pool)))
    (λ (other : row ≢ last_row pool).
    is_basis.columns row place (grind (arith, low, other)) within
    ∙ last_out (combined pool begun table basis row place) (unit_column (last_row pool) row) (entry_of table (last_row pool) place)
    (other_unit (last_row pool) row other)
    ∙ with_last pool begun table basis is_basis.count place row) (cases_eq row (last_row pool))

-- an exchange is a multiple of the denominator: that of the minor with both columns replaced
exchange_is_minor : (pool : ColumnPool) (begun table : Table) (basis : List ℕ) → AreMinors pool begun table basis → IsBasis pool begun table basis
    → (row place i j : ℕ) → row < last_row pool → place < places pool → i ≤ last_row pool → i ≢ row → j < places pool
    → table.denominator *ℤ minor pool (set (set (basic_columns pool begun basis) row (column_at begun place)) i (column_at begun j))
    ≡ exchange_of table row place i j
exchange_is_minor pool begun table basis minors is_basis row place i j low within below other inside =
    let columns = basic_columns pool begun basis in
    let rows = suc (last_row pool) in
    let many : length columns ≡ rows = many_basic pool begun basis ∙ ap suc is_basis.count in
    let at_most : row ≤ last_row pool = omega (arith, low) in
    exchanged_columns rows (minor pool) (alternates rows 0) (linear rows 0 rows (omega arith))
    columns i row (omega (arith, below, many)) (omega (arith, low, many)) other (λ (t : ℕ). entry_of table t place) table.denominator
    (column_at begun place) (column_at begun j) (column_sum pool begun table basis is_basis place within)
    ∙ ap (λ (t : ℤ). (entry_of table row place *ℤ t) -ℤ (entry_of table i place *ℤ minor pool (set columns row (column_at begun j))))
    (sym (minors.entries i j below inside))
    ∙ ap (λ (t : ℤ). (entry_of table row place *ℤ entry_of table i j) -ℤ (entry_of table i place *ℤ t)) (sym (minors.entries row j at_most inside))

-- each exchange of a table whose entries are minors is a multiple of the denominator
pub minors_are_whole : {pool : ColumnPool} {begun table : Table} {basis : List ℕ} → AreMinors pool begun table basis → IsBasis pool begun table basis
    → table.rows ≡ last_row pool + 1 → table.width ≡ places pool → (row place : ℕ) → row < last_row pool → place < places pool → AreWhole table row place
minors_are_whole {pool = pool} {begun = begun} {table = table} {basis = basis} minors is_basis rows width row place low within = λ i j below other inside. (
  minor pool (set (set (basic_columns pool begun basis) row (column_at begun place)) i (column_at begun j)),
  exchange_is_minor pool begun table basis minors is_basis row place i j low within (omega (arith, below, rows)) other (omega (arith, inside, width)),
)

same_factor : (d x y z : ℤ) → pos 0 <ℤ d → d *ℤ x ≡ z → d *ℤ y ≡ z → x ≡ y
same_factor d x y z some e f = same_over d x y some (*ℤ_comm x d ∙ e ∙ sym f ∙ *ℤ_comm d y)

-- the entries of the table after a pivot are minors
next_minor : (pool : ColumnPool) (begun before after : Table) (basis : List ℕ) → AreMinors pool begun before basis → IsBasis pool begun before basis
    → pos 0 <ℤ before.denominator → before.rows ≡ last_row pool + 1 → before.width ≡ places pool
    → (row place : ℕ) → IsPivot row place before after → (i j : ℕ) → i ≤ last_row pool → j < places pool
    → entry_of after i j ≡ minor pool (set (set (basic_columns pool begun basis) row (column_at begun place)) i (column_at begun j))
next_minor pool begun before after basis minors is_basis some rows width row place pivot i j below inside =
    let columns = basic_columns pool begun basis in
    let low : row < last_row pool = omega (arith, pivot.not_last, rows) in
    let entry = pivot.entries i j (omega (arith, below, rows)) (omega (arith, inside, width)) in
    ⊎_elim
    (λ (e : i ≡ row). entry.stays e ∙ minors.entries row j (omega (arith, low)) inside
    ∙ ap (minor pool) (sym (set-set columns row (column_at begun place) (column_at begun j)))
    ∙ ap (λ (n : ℕ). minor pool (set (set columns row (column_at begun place)) n (column_at begun j))) (sym e))
    (λ (other : i ≢ row). same_factor before.denominator _ _ _ some (entry.others other)
    (exchange_is_minor pool begun before basis minors is_basis row place i j low (omega (arith, pivot.within, width)) below other inside)) (cases_eq i row)

-- after a pivot the entries are minors still, of the basis with the pivot's place in its row
pub minors_stay : {pool : ColumnPool} {begun before after : Table} {basis : List ℕ} {row place : ℕ} → AreMinors pool begun before basis
    → IsBasis pool begun before basis → pos 0 <ℤ before.denominator → before.rows ≡ last_row pool + 1 → before.width ≡ places pool
    → IsPivot row place before after → AreMinors pool begun after (set basis row place)
minors_stay {pool = pool} {begun = begun} {before = before} {after = after} {basis = basis} {row = row} {place = place} minors is_basis some rows width pivot =
    let low : row < last_row pool = omega (arith, pivot.not_last, rows) in
    let same = sym (set_basic pool begun basis row place (omega (arith, low, is_basis.count))) in
    record {
      denominator = pivot.denominator ∙ minors.entries row place (omega (arith, low)) (omega (arith, pivot.within, width)) ∙ ap (minor pool) same;
      entries = λ i j below inside. next_minor pool begun before after basis minors is_basis some rows width row place pivot i j below inside
          ∙ ap (λ (t : Columns). minor pool (set t i (column_at begun j))) same;
    }

-- the columns of the start basis have 1 in a row of their own
start_own : (pool : ColumnPool) (begun : Table) (basis : List ℕ) → IsStart pool begun → length basis ≡ last_row pool
    → ((row : ℕ) → row < last_row pool → slice_index basis row ≡ column_place row) → (row : ℕ) → row < suc (last_row pool)
    → column_in (basic_columns pool begun basis) row row ≡ pos 1
start_own pool begun basis start count own row low = ⊎_elim
    (λ (e : row ≡ last_row pool). ap (λ (v : ℕ → ℤ). v row) (ap (column_in (basic_columns pool begun basis)) (e ∙ sym count) ∙ at_last pool begun basis)
    ∙ own_unit (last_row pool) row e)
    (λ (other : row ≢ last_row pool).
    let inside : row < last_row pool = grind (arith, low, other) in
    let entry = start.entries row (column_place row) (omega (arith, inside)) (omega (arith, inside)) in
    ap (λ (v : ℕ → ℤ). v row) (at_basic pool begun basis row (omega (arith, inside, count)))
    ∙ ap (λ (n : ℕ). entry_of begun row n) (own row inside) ∙ entry.own inside refl) (cases_eq row (last_row pool))

-- and 0 in all others
start_others : (pool : ColumnPool) (begun : Table) (basis : List ℕ) → IsStart pool begun → length basis ≡ last_row pool
    → ((row : ℕ) → row < last_row pool → slice_index basis row ≡ column_place row) → (t row : ℕ) → t < suc (last_row pool) → row < suc (last_row pool) → t ≢ row
    → column_in (basic_columns pool begun basis) t row ≡ pos 0
start_others pool begun basis start count own t row within low apart = ⊎_elim
    (λ (e : t ≡ last_row pool). ap (λ (v : ℕ → ℤ). v row) (ap (column_in (basic_columns pool begun basis)) (e ∙ sym count) ∙ at_last pool begun basis)
    ∙ other_unit (last_row pool) row (λ h. apart (e ∙ sym h)))
    (λ (other : t ≢ last_row pool).
    let inside : t < last_row pool = grind (arith, within, other) in
    let entry = start.entries row (column_place t) (omega (arith, low)) (omega (arith, inside)) in
    ap (λ (v : ℕ → ℤ). v row) (at_basic pool begun basis t (omega (arith, inside, count)))
    ∙ ap (λ (n : ℕ). entry_of begun row n) (own t inside)
    ∙ ⊎_elim (λ (e : row ≡ last_row pool). entry.last_columns t e inside refl)
    (λ (unequal : row ≢ last_row pool). entry.others t (grind (arith, low, unequal)) inside apart refl) (cases_eq row (last_row pool)))
    (cases_eq t (last_row pool))

-- the start table's denominator and entries are minors of it, of the basis of the columns' own places
pub start_has_minors : {pool : ColumnPool} {begun : Table} (basis : List ℕ) → IsStart pool begun → length basis ≡ last_row pool
    → ((row : ℕ) → row < last_row pool → slice_index basis row ≡ column_place row) → AreMinors pool begun begun basis
start_has_minors {pool = pool} {begun = begun} basis start count own =
    let columns = basic_columns pool begun basis in
    let rows = suc (last_row pool) in
    let many : length columns ≡ rows = many_basic pool begun basis ∙ ap suc count in
    let whole : minor pool columns ≡ pos 1 = triangular rows 0 columns many
    (λ t low. ap (column_in columns t) (omega arith) ∙ start_own pool begun basis start count own t low)
    (λ t n low from below. start_others pool begun basis start count own t n low (omega (arith, low, below)) (λ h. omega (arith, h, below))) in
    record {
      denominator = start.denominator ∙ sym whole;
      entries = λ i j below inside. sym (one_times _ _ _ whole
          (replaced_column rows (minor pool) (alternates rows 0) (linear rows 0 rows (omega arith)) columns i (omega (arith, below, many))
          (λ (t : ℕ). entry_of begun t j) (column_at begun j)
          (λ row low. sym (one_total (length columns) (λ (t : ℕ). column_in columns t row *ℤ entry_of begun t j) row (omega (arith, low, many))
          (λ t within other. no_times _ _ (start_others pool begun basis start count own t row (omega (arith, within, many)) low other))
          ∙ ap (λ (s : ℤ). s *ℤ entry_of begun row j) (start_own pool begun basis start count own row low)))));
    }
