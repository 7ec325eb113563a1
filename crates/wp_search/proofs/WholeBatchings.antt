-- Batches that are permitted and of which no two meet are a batching, where they have all orders.
use Rattle.std.proofs.Common.{◌≡◌, ◌≢◌, ℕ, ◌+◌, ◌<◌, ◌↔◌, ◌⊎◌, List, length, arith, ap, sym, ◌∙◌, subst, inl, inr, ⊎_elim, Contains}
use Rattle.std.proofs.lemmas.Bool.{cases_eq}
use Rattle.wp_pairs.specs.Permitted.{IsPermitted}
use Rattle.wp_lengths.specs.Batchings.{IsBatching, batch_at, no_pairs}
use Rattle.wp_lengths.specs.Waves.{WavePicks}

-- so many of the batches are permitted, no two of them meet, and these are their orders
pub record AreApartBelow (wave : WavePicks) (capacity : ℕ) (batches : List (List ℕ)) (count : ℕ) (covered : List ℕ) : Type 0 where
  pub each : (place : ℕ) → place < count → IsPermitted (no_pairs wave capacity) (batch_at batches place)
  pub found : (order : ℕ) → Contains covered order → (place : ℕ) × (place < count) × Contains (batch_at batches place) order
  pub held : (order place : ℕ) → place < count → Contains (batch_at batches place) order → Contains covered order
  pub once : (order left right : ℕ) → left < count → right < count → Contains (batch_at batches left) order → Contains (batch_at batches right) order
      → left ≡ right

-- and so is one more that is permitted and meets none of them
pub one_more_apart : (wave : WavePicks) (capacity : ℕ) (batches : List (List ℕ)) (count : ℕ) (covered wider batch : List ℕ) → batch ≡ batch_at batches count
    → IsPermitted (no_pairs wave capacity) batch → ((p : ℕ) → Contains covered p → Contains batch p → ⊥)
    → ((p : ℕ) → Contains wider p ↔ (Contains covered p ⊎ Contains batch p)) → AreApartBelow wave capacity batches count covered
    → AreApartBelow wave capacity batches (count + 1) wider
one_more_apart wave capacity batches count covered wider batch is permitted apart both before =
    let here = λ (order place : ℕ) (e : place ≡ count) (has : Contains (batch_at batches place) order). subst (λ (xs : List ℕ). Contains xs order)
    (ap (batch_at batches) e ∙ sym is) has in record {
      each = λ place low. ⊎_elim (λ (e : place ≡ count). subst (IsPermitted (no_pairs wave capacity)) (is ∙ sym (ap (batch_at batches) e)) permitted)
          (λ (ne : place ≢ count). before.each place (omega (arith, low, ne))) (cases_eq place count);
      found = λ order has. ⊎_elim (λ old. let at = before.found order old in (at.0, omega (arith, at.1), at.2))
          (λ new. (count, omega arith, subst (λ (xs : List ℕ). Contains xs order) is new)) ((both order).0 has);
      held = λ order place low has. (both order).1 (⊎_elim (λ (e : place ≡ count). inr (here order place e has))
          (λ (ne : place ≢ count). inl (before.held order place (omega (arith, low, ne)) has)) (cases_eq place count));
      once = λ order left right l r has has_too. ⊎_elim
          (λ (e : left ≡ count). ⊎_elim (λ (f : right ≡ count). e ∙ sym f)
          (λ (ne : right ≢ count). absurd (apart order (before.held order right (omega (arith, r, ne)) has_too) (here order left e has)))
          (cases_eq right count))
          (λ (ne : left ≢ count). ⊎_elim
          (λ (f : right ≡ count). absurd (apart order (before.held order left (omega (arith, l, ne)) has) (here order right f has_too)))
          (λ (nf : right ≢ count). before.once order left right (omega (arith, l, ne)) (omega (arith, r, nf)) has has_too) (cases_eq right count))
          (cases_eq left count);
    }

-- where they have all orders, all batches are a batching
pub whole_batching : (wave : WavePicks) (capacity : ℕ) (batches : List (List ℕ)) (count : ℕ) (covered : List ℕ) → count ≡ length batches
    → AreApartBelow wave capacity batches count covered → ((order : ℕ) → order < length wave.orders → Contains covered order) → IsBatching wave capacity batches
whole_batching wave capacity batches count covered all are covers = record {
  each = λ place within. are.each place (omega (arith, within, all));
  covered = λ order low. let at = are.found order (covers order low) in (at.0, omega (arith, at.1, all), at.2);
  once = λ order left right l r has has_too. are.once order left right (omega (arith, l, all)) (omega (arith, r, all)) has has_too;
}
