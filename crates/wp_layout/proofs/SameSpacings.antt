-- When all spacings of a layout are the same.
use Rattle.std.proofs.Common.{◌≡◌, ◌≢◌, ℕ, zero, suc, ◌+◌, ◌<◌, ◌≤◌, ◌==◌, true, false, List, [], ◌∷◌, length, slice_index, arith, refl}
use Rattle.std.specs.List.{list_all}
use Rattle.std.proofs.lemmas.Bool.{and_from, eq-eqb, ne_eqb}
use Rattle.std.proofs.lemmas.List.Folds.{list_all_at}
use Rattle.wp_model.specs.Warehouse.{IsLayout, Layout, spacing_after}
use Rattle.wp_layout.specs.LayoutText.{are_same}

all_equal : (w : ℕ) (ws : List ℕ) → ((k : ℕ) → k < length ws → slice_index ws k ≡ w) → list_all (λ other. other == w) ws ≡ true
all_equal w [] same = refl
all_equal w (v ∷ ws) same =
    and_from (v == w) (list_all (λ other. other == w) ws) (eq-eqb v w (same 0 (omega arith))) (all_equal w ws (λ k low. same (suc k) (omega (arith, low))))

-- each is that after the first aisle
pub same_told : (layout : Layout) → IsLayout layout → 2 ≤ layout.aisles →
    ((at : ℕ) → 2 ≤ at → at < layout.aisles → spacing_after layout at ≡ spacing_after layout 1) → are_same layout.spacings ≡ true
same_told layout valid more same = go layout.spacings valid.between same
  where
    go : (ws : List ℕ) → length ws + 1 ≡ layout.aisles →
        ((at : ℕ) → 2 ≤ at → at < layout.aisles → slice_index (0 ∷ ws) at ≡ slice_index (0 ∷ ws) 1) → are_same ws ≡ true
    go [] count same = absurd (omega (arith, count, more))
    go (w ∷ ws) count same = all_equal w ws (λ k low. same (suc (suc k)) (omega arith) (omega (arith, low, count)))

-- one is another
pub other_told : (layout : Layout) (at : ℕ) → IsLayout layout → 2 ≤ at → at < layout.aisles → spacing_after layout at ≢ spacing_after layout 1 →
    are_same layout.spacings ≡ false
other_told layout at valid low high other = go layout.spacings valid.between other
  where
    go : (ws : List ℕ) → length ws + 1 ≡ layout.aisles → slice_index (0 ∷ ws) at ≢ slice_index (0 ∷ ws) 1 → are_same ws ≡ false
    go [] count other = absurd (omega (arith, count, low, high))
    go (w ∷ ws) count other = found at low high other
      where
        found : (at : ℕ) → 2 ≤ at → at < layout.aisles → slice_index (0 ∷ w ∷ ws) at ≢ w → list_all (λ v. v == w) ws ≡ false
        found zero low high other = absurd (omega (arith, low))
        found (suc zero) low high other = absurd (omega (arith, low))
        found (suc (suc k)) low high other =
            list_all_at (λ v. v == w) ws k 0 (omega (arith, high, count)) (ne_eqb (slice_index ws k) w other)
