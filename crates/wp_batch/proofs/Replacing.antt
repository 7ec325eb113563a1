-- With the orders of two batches put into two others, a batching stays one.
use Rattle.std.proofs.Common.{◌≡◌, ◌≢◌, ℕ, ◌<◌, List, [], length, set, arith, ap, sym, ◌∙◌, subst, inl, inr, ◌⊎◌, ⊎_elim, Contains}
use Rattle.std.proofs.lemmas.Bool.{cases_eq}
use Rattle.std.proofs.lemmas.List.Elements.{All-contains}
use Rattle.std.proofs.lemmas.List.{get_or-set_other, get_or-set_same, length-set}
use Rattle.wp_pairs.specs.Permitted.{IsPermitted}
use Rattle.wp_batch.specs.declared.split.Split.{Split}
use Rattle.wp_lengths.specs.Batchings.{IsBatching, batch_at, no_pairs}
use Rattle.wp_batch.specs.Splits.{CanReplace}
use Rattle.wp_lengths.specs.Waves.{WavePicks}
use Rattle.wp_lengths.proofs.NoPairs.{permitted_alone}

module _ (wave : WavePicks) (capacity : ℕ) (batches : List (List ℕ)) (i j : ℕ) (split : Split) (is : IsBatching wave capacity batches)
    (h : CanReplace wave capacity batches i j split) where
  inside : i < length batches
  inside = omega (arith, h.order, h.within)

  at_left : batch_at (set (set batches i split.left) j split.right) i ≡ split.left
  at_left =
      let ne : i ≢ j = omega (arith, h.order) in
      get_or-set_other (set batches i split.left) j i split.right [] ne ∙ get_or-set_same batches i split.left [] inside

  at_right : batch_at (set (set batches i split.left) j split.right) j ≡ split.right
  at_right = get_or-set_same (set batches i split.left) j split.right [] (omega (arith, h.within, length-set batches i split.left))

  at_other : (k : ℕ) → k ≢ i → k ≢ j → batch_at (set (set batches i split.left) j split.right) k ≡ batch_at batches k
  at_other k ni nj = get_or-set_other (set batches i split.left) j k split.right [] nj ∙ get_or-set_other batches i k split.left [] ni

  -- the list stays as long
  pub as_long : length (set (set batches i split.left) j split.right) ≡ length batches
  as_long = length-set (set batches i split.left) j split.right ∙ length-set batches i split.left

  known : (order : ℕ) → Contains split.left order ⊎ Contains split.right order → order < length wave.orders
  known order has = ⊎_elim (λ l. All-contains (λ (o : ℕ). o < length wave.orders) (batch_at batches i) order (is.each i inside).known l)
      (λ r. All-contains (λ (o : ℕ). o < length wave.orders) (batch_at batches j) order (is.each j h.within).known r) ((h.of_both order).0 has)

  permits : (place : ℕ) → place < length batches → IsPermitted (no_pairs wave capacity) (batch_at (set (set batches i split.left) j split.right) place)
  permits place within = ⊎_elim
      (λ (e : place ≡ i). subst (IsPermitted (no_pairs wave capacity)) (sym (ap (batch_at (set (set batches i split.left) j split.right)) e ∙ at_left))
      (permitted_alone wave capacity split.left h.left_fit.is (omega (arith, h.left_fit.filled)) h.left_fit.fits h.left_fit.light (λ o has. known o (inl has))))
      (λ (ni : place ≢ i). ⊎_elim
      (λ (e : place ≡ j). subst (IsPermitted (no_pairs wave capacity)) (sym (ap (batch_at (set (set batches i split.left) j split.right)) e ∙ at_right))
      (permitted_alone wave capacity split.right h.right_fit.is (omega (arith, h.right_fit.filled)) h.right_fit.fits h.right_fit.light
      (λ o has. known o (inr has))))
      (λ (nj : place ≢ j). subst (IsPermitted (no_pairs wave capacity)) (sym (at_other place ni nj)) (is.each place within))
      (cases_eq place j))
      (cases_eq place i)

  covers : (order : ℕ) → order < length wave.orders
      → (place : ℕ) × (place < length (set (set batches i split.left) j split.right))
      × Contains (batch_at (set (set batches i split.left) j split.right) place) order
  covers order low =
      let old = is.covered order low in
      let place = old.0 in
      let in_either : Contains (batch_at batches i) order ⊎ Contains (batch_at batches j) order → (place : ℕ)
      × (place < length (set (set batches i split.left) j split.right)) × Contains (batch_at (set (set batches i split.left) j split.right) place) order =
      λ either. ⊎_elim
      (λ l. (i, omega (arith, as_long, inside), subst (λ (xs : List ℕ). Contains xs order) (sym at_left) l))
      (λ r. (j, omega (arith, as_long, h.within), subst (λ (xs : List ℕ). Contains xs order) (sym at_right) r))
      ((h.of_both order).1 either) in
      ⊎_elim
      (λ (e : place ≡ i). in_either (inl (subst (λ (k : ℕ). Contains (batch_at batches k) order) e old.2)))
      (λ (ni : place ≢ i). ⊎_elim
      (λ (e : place ≡ j). in_either (inr (subst (λ (k : ℕ). Contains (batch_at batches k) order) e old.2)))
      (λ (nj : place ≢ j). (place, omega (arith, as_long, old.1), subst (λ (xs : List ℕ). Contains xs order) (sym (at_other place ni nj)) old.2))
      (cases_eq place j))
      (cases_eq place i)

  -- which of the new batches has an order
  data Holder (order k : ℕ) : Type 0 where
    of_left : k ≡ i → Contains split.left order → Holder order k
    of_right : k ≡ j → Contains split.right order → Holder order k
    of_other : k ≢ i → k ≢ j → Contains (batch_at batches k) order → Holder order k

  holder : (order k : ℕ) → Contains (batch_at (set (set batches i split.left) j split.right) k) order → Holder order k
  holder order k has = ⊎_elim
      (λ (e : k ≡ i). of_left e (subst (λ (xs : List ℕ). Contains xs order) (ap (batch_at (set (set batches i split.left) j split.right)) e ∙ at_left) has))
      (λ (ni : k ≢ i). ⊎_elim
      (λ (e : k ≡ j). of_right e (subst (λ (xs : List ℕ). Contains xs order) (ap (batch_at (set (set batches i split.left) j split.right)) e ∙ at_right) has))
      (λ (nj : k ≢ j). of_other ni nj (subst (λ (xs : List ℕ). Contains xs order) (at_other k ni nj) has))
      (cases_eq k j))
      (cases_eq k i)

  -- an order of the two batches is in no other one
  not_elsewhere : (order k : ℕ) → k < length batches → k ≢ i → k ≢ j → Contains (batch_at batches k) order
      → Contains split.left order ⊎ Contains split.right order → ⊥
  not_elsewhere order k within ni nj has either = ⊎_elim
      (λ l. ni (is.once order k i within inside has l))
      (λ r. nj (is.once order k j within h.within has r))
      ((h.of_both order).0 either)

  one_holder : (order left right : ℕ) → left < length batches → right < length batches → Holder order left → Holder order right → left ≡ right
  one_holder order left right l r (of_left e a) (of_left f b) = e ∙ sym f
  one_holder order left right l r (of_left e a) (of_right f b) = absurd (h.apart order a b)
  one_holder order left right l r (of_left e a) (of_other ni nj b) = absurd (not_elsewhere order right r ni nj b (inl a))
  one_holder order left right l r (of_right e a) (of_left f b) = absurd (h.apart order b a)
  one_holder order left right l r (of_right e a) (of_right f b) = e ∙ sym f
  one_holder order left right l r (of_right e a) (of_other ni nj b) = absurd (not_elsewhere order right r ni nj b (inr a))
  one_holder order left right l r (of_other ni nj a) (of_left f b) = absurd (not_elsewhere order left l ni nj a (inl b))
  one_holder order left right l r (of_other ni nj a) (of_right f b) = absurd (not_elsewhere order left l ni nj a (inr b))
  one_holder order left right l r (of_other ni nj a) (of_other mi mj b) = is.once order left right l r a b

  -- the batching stays one
  pub replaced_is_batching : IsBatching wave capacity (set (set batches i split.left) j split.right)
  replaced_is_batching = record {
    each = λ place within. permits place (omega (arith, as_long));
    covered = covers;
    once = λ order left right l r has has_too.
        one_holder order left right (omega (arith, as_long)) (omega (arith, as_long)) (holder order left has) (holder order right has_too);
  }
