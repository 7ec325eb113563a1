-- Entries of tables, and how they lie in a list.
use Rattle.std.proofs.Common.{◌≡◌, ℕ, ◌+◌, ◌*◌, ◌/◌, ◌%◌, ◌<◌, ◌≤◌, ℤ, pos, ◌*ℤ◌, ◌-ℤ◌, ◌⊎◌, ⊎_elim, inl, inr, FitsSigned}
use Rattle.std.proofs.Common.{List, [], ◌∷◌, ◌++◌, length, arith, refl, ap, sym, length-append, subst, ◌∙◌}
use Rattle.std.specs.Int.{w128}
use Rattle.std.specs.Prelude.{slice_index_or}
use Rattle.std.proofs.lemmas.Int.{ints}
use Rattle.std.proofs.lemmas.List.{get_or_append_left, get_or_push}
use Rattle.wp_master.specs.Pivots.{AreWhole, AreWide, AreWideEntries, IsEntry}
use Rattle.wp_master.specs.Pivots.{IsTwofoldOf, IsWideFor, Table, exchange_of}
use Rattle.std.proofs.lemmas.Nat.{div-mul-add, mod-mul-add}

-- the difference of two products of equal factors
pub same_exchange : (a b c d e f g h : ℤ) → e ≡ a → f ≡ b → g ≡ c → h ≡ d → ((e *ℤ f) -ℤ (g *ℤ h)) ≡ ((a *ℤ b) -ℤ (c *ℤ d))
same_exchange a b c d e f g h p q r s =
    ap (λ (t : ℤ). (t *ℤ f) -ℤ (g *ℤ h)) p ∙ ap (λ (t : ℤ). (a *ℤ t) -ℤ (g *ℤ h)) q
    ∙ ap (λ (t : ℤ). (a *ℤ b) -ℤ (t *ℤ h)) r ∙ ap (λ (t : ℤ). (a *ℤ b) -ℤ (c *ℤ t)) s

is_entry_along : (table : Table) (a b : ℤ) → a ≡ b → IsEntry table b → IsEntry table a
is_entry_along table a b e entry = (entry.0, entry.1, entry.2, entry.3, e ∙ entry.4)

wide_pair : (table : Table) (a b left right : ℤ) → IsEntry table a → IsEntry table b → AreWide a b left right → AreWideEntries table left right
wide_pair table a b left right one two wide = ⊎_elim
    (λ (both : (left ≡ a) × (right ≡ b) × (FitsSigned w128 (a *ℤ b) → ⊥)). record {
      left_entry = inl (is_entry_along table left a both.0 one);
      right_entry = is_entry_along table right b both.1 two;
      leaves = λ fits. both.2 (subst (FitsSigned w128) (ap (λ (t : ℤ). t *ℤ right) both.0 ∙ ap (λ (t : ℤ). a *ℤ t) both.1) fits);
    })
    (λ (twice : IsTwofoldOf a b left right). ⊎_elim
    (λ (l : (left ≡ pos 2 *ℤ a) × (right ≡ b)). record {
      left_entry = inr (a, one, l.0);
      right_entry = is_entry_along table right b l.1 two;
      leaves = twice.leaves;
    })
    (λ (r : (left ≡ pos 2 *ℤ b) × (right ≡ a)). record {
      left_entry = inr (b, two, r.0);
      right_entry = is_entry_along table right a r.1 one;
      leaves = twice.leaves;
    }) twice.factors) wide

-- factors that are wide for four entries
pub wide_entries : (table : Table) (a b c d left right : ℤ) → IsEntry table a → IsEntry table b → IsEntry table c → IsEntry table d
    → IsWideFor a b c d left right → AreWideEntries table left right
wide_entries table a b c d left right p q r s w = ⊎_elim (wide_pair table a b left right p q) (wide_pair table c d left right r s) w

lower_or_last : (n k : ℕ) → k < n + 1 → (k < n) ⊎ (k ≡ n)
lower_or_last n k h = grind arith

-- what holds of each entry of a list and of one more, by its number, holds of each entry of the list with that one behind
pub each_more : {X : Type 0} (P : ℕ → X → Type 0) (xs : List X) (x d : X) → ((k : ℕ) → k < length xs → P k (slice_index_or xs k d)) → P (length xs) x
    → (k : ℕ) → k < length (xs ++ x ∷ []) → P k (slice_index_or (xs ++ x ∷ []) k d)
each_more P xs x d each this k low = ⊎_elim
    (λ (l : k < length xs). subst (P k) (sym (get_or_append_left xs (x ∷ []) d k l)) (each k l))
    (λ (e : k ≡ length xs). subst (λ (n : ℕ). P n (slice_index_or (xs ++ x ∷ []) n d)) (sym e)
    (subst (P (length xs)) (sym (get_or_push xs x d (length xs) refl)) this))
    (lower_or_last (length xs) k (omega (arith, length-append xs (x ∷ []), low)))

scaled_rows : (rows width i : ℕ) → i < rows → i * width + width ≤ rows * width
scaled_rows rows width i low = grind arith

pub within_rows : (rows width i j : ℕ) → i < rows → j < width → i * width + j < rows * width
within_rows rows width i j low in_row = omega (arith, scaled_rows rows width i low)

-- what holds of each entry of a list by the quotient and the remainder of its number holds of it by its row and place
pub by_row : (P : ℕ → ℕ → ℤ → Type 0) (rows width : ℕ) (xs : List ℤ) → length xs ≡ rows * width
    → ((at : ℕ) → at < length xs → P (at / width) (at % width) (slice_index_or xs at (pos 0)))
    → (i j : ℕ) → i < rows → j < width → P i j (slice_index_or xs (i * width + j) (pos 0))
by_row P rows width xs count each i j low in_row =
    let x = slice_index_or xs (i * width + j) (pos 0) in
    let at = each (i * width + j) (omega (arith, within_rows rows width i j low in_row, count)) in
    subst (λ (n : ℕ). P i n x) (mod-mul-add i width j in_row)
    (subst (λ (n : ℕ). P n ((i * width + j) % width) x) (div-mul-add i width j in_row) at)

pub one_times : (x : ℤ) → pos 1 *ℤ x ≡ x
one_times x = omega (arith, ints)

-- over 1, each exchange is a multiple of the denominator
pub whole_over_one : (table : Table) (row place : ℕ) → table.denominator ≡ pos 1 → AreWhole table row place
whole_over_one table row place one = λ i j low other in_row.
    let x = exchange_of table row place i j in (x, ap (λ (t : ℤ). t *ℤ x) one ∙ one_times x)
