-- The start table: its basis are the places of the columns.
use Rattle.std.proofs.Common.{◌≡◌, ◌≢◌, ◌⊎◌, ⊎_elim, ℕ, zero, suc, ◌<◌, ◌≤◌, ℤ, pos, ◌+ℤ◌, ◌*ℤ◌, ◌<ℤ◌, List, length, slice_index}
use Rattle.std.proofs.Common.{arith, ap, sym, refl, ◌∙◌}
use Rattle.std.proofs.Math.IntN.{*ℤ_comm}
use Rattle.std.proofs.lemmas.Int.{ints}
use Rattle.wp_master.proofs.Entries.{one_times}
use Rattle.wp_master.proofs.Totals.{no_total, one_total, same_total}
use Rattle.wp_master.specs.Bases.{IsBasis, basic_place, combined}
use Rattle.wp_master.specs.Pivots.{IsStart, Table, column_place, entry_of, last_row}
use Rattle.wp_master.specs.Pools.{ColumnPool, column_of}
use Rattle.wp_master.specs.Runs.{AreGathered, IsAbove, gathered}

lower_or_last : (i n : ℕ) → i ≤ n → (i < n) ⊎ (i ≡ n)
lower_or_last i n h = grind arith

-- a row of a column has 1 at its own place
pub one_at_own : (pool : ColumnPool) (table : Table) (row : ℕ) → IsStart pool table → row < last_row pool → entry_of table row (column_place row) ≡ pos 1
one_at_own pool table row start low = (start.entries row (column_place row) (omega (arith, low)) (omega (arith, low))).own low refl

-- each row has 0 at the places of the columns but its own
pub none_at_others : (pool : ColumnPool) (table : Table) (row column : ℕ) → IsStart pool table → row ≤ last_row pool → column < last_row pool → column ≢ row
    → entry_of table row (column_place column) ≡ pos 0
none_at_others pool table row column start high known other =
    let entry = start.entries row (column_place column) high (omega (arith, known)) in
    ⊎_elim (λ (low : row < last_row pool). entry.others column low known other refl)
    (λ (last : row ≡ last_row pool). entry.last_columns column last known refl)
    (lower_or_last row (last_row pool) high)

none_times : (x y : ℤ) → x ≡ pos 0 → x *ℤ y ≡ pos 0
none_times x y e = ap (λ (t : ℤ). t *ℤ y) e ∙ *ℤ_comm (pos 0) y ∙ omega (arith, ints)

pub once : (x y : ℤ) → x ≡ pos 1 → x *ℤ y ≡ y
once x y e = ap (λ (t : ℤ). t *ℤ y) e ∙ one_times y

-- a row of a column is gathered from itself
pub start_row_gathered : (pool : ColumnPool) (table : Table) (row place : ℕ) → IsStart pool table → row < last_row pool
    → gathered pool table table row place ≡ entry_of table row place
start_row_gathered pool table row place start low =
    one_total (last_row pool) (λ (c : ℕ). entry_of table row (column_place c) *ℤ entry_of table c place) row low
    (λ c known other. none_times _ _ (none_at_others pool table row c start (omega (arith, low)) known other))
    ∙ once _ _ (one_at_own pool table row start low)

-- nothing of the columns is in the last row
pub start_last_gathered : (pool : ColumnPool) (table : Table) (place : ℕ) → IsStart pool table → gathered pool table table (last_row pool) place ≡ pos 0
start_last_gathered pool table place start =
    no_total (last_row pool) (λ (c : ℕ). entry_of table (last_row pool) (column_place c) *ℤ entry_of table c place)
    (λ c known. none_times _ _ (none_at_others pool table (last_row pool) c start (omega arith) known (λ e. omega (arith, e, known))))

-- the places of the columns combine what the columns gather
combined_is_gathered : (pool : ColumnPool) (table : Table) (basis : List ℕ) (row place : ℕ)
    → ((k : ℕ) → k < last_row pool → slice_index basis k ≡ column_place k) → combined pool table table basis row place ≡ gathered pool table table row place
combined_is_gathered pool table basis row place each =
    same_total (last_row pool) (λ (k : ℕ). entry_of table row (basic_place basis k) *ℤ entry_of table k place)
    (λ (c : ℕ). entry_of table row (column_place c) *ℤ entry_of table c place)
    (λ k low. ap (λ (x : ℕ). entry_of table row x *ℤ entry_of table k place) (each k low))

added_to_none : (x y d s : ℤ) → x ≡ pos 0 → d ≡ pos 1 → y ≡ s → d *ℤ s ≡ y +ℤ x
added_to_none x y d s e f g = let one = once d s f in omega (arith, ints, one, e, g)

pub start_has_basis : (pool : ColumnPool) (table : Table) (basis : List ℕ) → IsStart pool table → length basis ≡ last_row pool
    → ((row : ℕ) → row < last_row pool → slice_index basis row ≡ column_place row) → IsBasis pool table table basis
start_has_basis pool table basis start count each = record {
  count = count;
  not_first = λ row low. omega (arith, each row low);
  within = λ row low. omega (arith, each row low, low);
  own = λ row low. ap (λ (x : ℕ). entry_of table row x) (each row low) ∙ one_at_own pool table row start low ∙ sym start.denominator;
  others = λ row k high low apart. ap (λ (x : ℕ). entry_of table row x) (each k low)
      ∙ none_at_others pool table row k start high low (λ e. apart (sym e));
  columns = λ row place low in_row. once _ _ start.denominator
      ∙ sym (combined_is_gathered pool table basis row place each ∙ start_row_gathered pool table row place start low);
  last = λ place in_row. added_to_none _ _ _ _
      (combined_is_gathered pool table basis (last_row pool) place each ∙ start_last_gathered pool table place start) start.denominator refl;
}

kept_with_none : (x d s : ℤ) → x ≡ pos 0 → d ≡ pos 1 → s ≡ (d *ℤ s) +ℤ x
kept_with_none x d s e f = let one = once d s f in omega (arith, ints, one, e)

pub start_is_gathered : (pool : ColumnPool) (table : Table) → IsStart pool table → AreGathered pool table table
start_is_gathered pool table start = record {
  columns = λ row place low in_row. sym (start_row_gathered pool table row place start low);
  last = λ place in_row. kept_with_none _ _ _ (start_last_gathered pool table place start) start.denominator;
}

above_one : (x : ℤ) → x ≡ pos 1 → pos 0 <ℤ x
above_one x e = omega (arith, ints, e)

above_long : (x : ℤ) (k : ℕ) → x ≡ pos (suc k) → pos 0 <ℤ x
above_long x k e = omega (arith, ints, e)

before_own : (pool : ColumnPool) (table : Table) (row j : ℕ) → IsStart pool table → row < last_row pool → entry_of table row 0 ≡ pos 0 → j < column_place row
    → entry_of table row j ≡ pos 0
before_own pool table row zero start low none early = none
before_own pool table row (suc j) start low none early =
    ap (λ (x : ℕ). entry_of table row x) (omega arith)
    ∙ none_at_others pool table row j start (omega (arith, low)) (omega (arith, early, low)) (λ e. omega (arith, e, early))

above_of_length : (pool : ColumnPool) (table : Table) (row long : ℕ) → IsStart pool table → row < last_row pool → entry_of table row 0 ≡ pos long
    → IsAbove table row
above_of_length pool table row zero start low is = record {
  at = column_place row;
  within = omega (arith, low, start.width);
  before = λ j early. before_own pool table row j start low is early;
  above = above_one _ (one_at_own pool table row start low);
}
above_of_length pool table row (suc k) start low is = record {
  at = 0;
  within = omega (arith, start.width);
  before = λ j early. absurd (omega (arith, early));
  above = above_long _ k is;
}

-- the rows of the columns are above 0
pub start_is_above : (pool : ColumnPool) (table : Table) (row : ℕ) → IsStart pool table → row < last_row pool → IsAbove table row
start_is_above pool table row start low = above_of_length pool table row (column_of pool row).length start low
    ((start.entries row 0 (omega (arith, low)) (omega arith)).long low refl)
