-- Batches taken out of a list by their least orders.
use Rattle.std.proofs.Common.{◌≡◌, ◌≢◌, ℕ, ◌+◌, ◌<◌, ◌≤◌, List, [], ◌∷◌, ◌++◌, length, length-append, get_or, arith, refl, ap, sym, ◌∙◌, subst}
use Rattle.std.proofs.Common.{⊎_elim, Contains}
use Rattle.std.specs.Prelude.{Some, slice_get}
use Rattle.std.proofs.lemmas.Bool.{cases_eq, cases_lt}
use Rattle.std.proofs.lemmas.List.Elements.{All-contains, Contains-get_or}
use Rattle.std.proofs.lemmas.List.{get_or_append_left, get_or_default, get_or_push}
use Rattle.std.proofs.lemmas.Option.{get_or_from_slice_get, slice_get-get_or}
use Rattle.wp_pairs.specs.Permitted.{IsPermitted}
use Rattle.wp_lengths.specs.Batchings.{IsBatching, IsListedByLeast, batch_at, no_pairs}
use Rattle.wp_lengths.specs.Waves.{WavePicks}

-- the batches whose least orders are below this one, listed by them
pub record AreListedBelow (batches listed : List (List ℕ)) (limit : ℕ) : Type 0 where
  pub few : length listed ≤ limit
  pub from : (k : ℕ) → k < length listed → (m : ℕ) × (m < length batches) × (batch_at listed k ≡ batch_at batches m) × (get_or (batch_at batches m) 0 0 < limit)
  pub all : (m : ℕ) → m < length batches → get_or (batch_at batches m) 0 0 < limit → (k : ℕ) × (k < length listed) × (batch_at listed k ≡ batch_at batches m)
  pub ascend : IsListedByLeast listed

module _ (wave : WavePicks) (capacity : ℕ) (batches : List (List ℕ)) (is : IsBatching wave capacity batches) where
  first_of : (m : ℕ) → m < length batches → Contains (batch_at batches m) (get_or (batch_at batches m) 0 0)
  first_of m within = Contains-get_or (batch_at batches m) 0 0 (is.each m within).filled

  -- a batch with this least order comes next
  pub one_more_listed : (listed : List (List ℕ)) (limit place : ℕ) (batch : List ℕ) → AreListedBelow batches listed limit → place < length batches
      → slice_get (batch_at batches place) 0 ≡ Some limit → batch ≡ get_or batches place batch → AreListedBelow batches (listed ++ batch ∷ []) (limit + 1)
  one_more_listed listed limit place batch before within least read =
      let here : batch ≡ batch_at batches place = read ∙ get_or_default batches place batch [] within in
      let first : get_or (batch_at batches place) 0 0 ≡ limit = get_or_from_slice_get (batch_at batches place) 0 limit 0 least in
      let end : batch_at (listed ++ batch ∷ []) (length listed) ≡ batch = get_or_push listed batch [] (length listed) refl in
      let long : length (listed ++ batch ∷ []) ≡ length listed + 1 = length-append listed (batch ∷ []) ∙ omega arith in
      let kept = λ (k : ℕ) (low : k < length listed). get_or_append_left listed (batch ∷ []) [] k low in
      record {
        few = omega (arith, long, before.few);
        from = λ k low. ⊎_elim
            (λ (lt : k < length listed). let old = before.from k lt in (old.0, old.1, kept k lt ∙ old.2, omega (arith, old.3)))
            (λ (ge : length listed ≤ k). let e : k ≡ length listed = omega (arith, long) in
            (place, within, ap (batch_at (listed ++ batch ∷ [])) e ∙ (end ∙ here), omega (arith, first)))
            (cases_lt k (length listed));
        all = λ m inside low. ⊎_elim
            (λ (e : get_or (batch_at batches m) 0 0 ≡ limit).
            let has = subst (Contains (batch_at batches m)) e (first_of m inside) in
            let has_too = subst (Contains (batch_at batches place)) first (first_of place within) in
            let same : place ≡ m = is.once limit place m within inside has_too has in
            (length listed, omega (arith, long), end ∙ (here ∙ ap (batch_at batches) same)))
            (λ (ne : get_or (batch_at batches m) 0 0 ≢ limit). let old = before.all m inside (omega (arith, ne)) in
            (old.0, omega (arith, old.1, long), kept old.0 old.1 ∙ old.2))
            (cases_eq (get_or (batch_at batches m) 0 0) limit);
        ascend = λ l r lt inside. ⊎_elim
            (λ (low : r < length listed).
            let left = ap (λ (xs : List ℕ). get_or xs 0 0) (kept l (omega arith)) in
            let right = ap (λ (xs : List ℕ). get_or xs 0 0) (kept r low) in
            omega (arith, before.ascend l r lt low, left, right))
            (λ (ge : length listed ≤ r).
            let e : r ≡ length listed = omega (arith, long) in
            let low : l < length listed = omega arith in
            let old = before.from l low in
            let left = ap (λ (xs : List ℕ). get_or xs 0 0) (kept l low ∙ old.2) in
            let right = ap (λ (xs : List ℕ). get_or xs 0 0) (ap (batch_at (listed ++ batch ∷ [])) e ∙ (end ∙ here)) in
            omega (arith, left, right, first, old.3))
            (cases_lt r (length listed));
      }

  -- no batch has this least order
  pub none_listed : (listed : List (List ℕ)) (limit : ℕ) → AreListedBelow batches listed limit
      → ((m : ℕ) → m < length batches → slice_get (batch_at batches m) 0 ≢ Some limit) → AreListedBelow batches listed (limit + 1)
  none_listed listed limit before none = record {
    few = omega (arith, before.few);
    from = λ k low. let old = before.from k low in (old.0, old.1, old.2, omega (arith, old.3));
    all = λ m inside low. ⊎_elim
        (λ (e : get_or (batch_at batches m) 0 0 ≡ limit).
        absurd (none m inside (slice_get-get_or (batch_at batches m) 0 0 (is.each m inside).filled ∙ ap (λ (x : ℕ). Some x) e)))
        (λ (ne : get_or (batch_at batches m) 0 0 ≢ limit). before.all m inside (omega (arith, ne)))
        (cases_eq (get_or (batch_at batches m) 0 0) limit);
    ascend = before.ascend;
  }

  -- at first nothing is listed
  pub nothing_listed : (listed : List (List ℕ)) → listed ≡ [] → AreListedBelow batches listed 0
  nothing_listed listed empty =
      let none : length listed ≡ 0 = ap (λ (xs : List (List ℕ)). length xs) empty in
      record {
        few = omega (arith, none);
        from = λ k low. absurd (omega (arith, none));
        all = λ m inside low. absurd (omega arith);
        ascend = λ l r lt inside. absurd (omega (arith, none));
      }

  -- at the end all are
  pub listed_is_batching : (listed : List (List ℕ)) → AreListedBelow batches listed (length wave.orders) → IsBatching wave capacity listed
  listed_is_batching listed all = record {
    each = λ place within. let from = all.from place within in subst (IsPermitted (no_pairs wave capacity)) (sym from.2) (is.each from.0 from.1);
    covered = λ order known.
        let old = is.covered order known in
        let first = All-contains (λ (o : ℕ). o < length wave.orders) (batch_at batches old.0) (get_or (batch_at batches old.0) 0 0)
        (is.each old.0 old.1).known (first_of old.0 old.1) in
        let there = all.all old.0 old.1 first in
        (there.0, there.1, subst (λ (xs : List ℕ). Contains xs order) (sym there.2) old.2);
    once = λ order left right l r has has_too.
        let f = all.from left l in
        let g = all.from right r in
        let same : f.0 ≡ g.0 = is.once order f.0 g.0 f.1 g.1 (subst (λ (xs : List ℕ). Contains xs order) f.2 has)
        (subst (λ (xs : List ℕ). Contains xs order) g.2 has_too) in
        let firsts : get_or (batch_at listed left) 0 0 ≡ get_or (batch_at listed right) 0 0 =
        ap (λ (xs : List ℕ). get_or xs 0 0) (f.2 ∙ (ap (batch_at batches) same ∙ sym g.2)) in
        ⊎_elim (λ (lt : left < right). absurd (omega (arith, all.ascend left right lt r, firsts)))
        (λ (ge : right ≤ left). ⊎_elim (λ (lt : right < left). absurd (omega (arith, all.ascend right left lt l, firsts))) (λ (le : left ≤ right). omega arith)
        (cases_lt right left))
        (cases_lt left right);
  }

  -- each that is listed is one of the batches
  pub among : (listed : List (List ℕ)) (limit : ℕ) → AreListedBelow batches listed limit → (k : ℕ) → k < length listed
      → Contains batches (batch_at listed k)
  among listed limit before k low =
      let old = before.from k low in
      (old.0, old.1, get_or_default batches old.0 (batch_at listed k) [] old.1 ∙ sym old.2)

  -- and each of the batches is listed at the end
  pub all_listed : (listed : List (List ℕ)) → AreListedBelow batches listed (length wave.orders) → (m : ℕ) → m < length batches
      → (k : ℕ) × (k < length listed) × (batch_at listed k ≡ batch_at batches m)
  all_listed listed all m within = all.all m within
      (All-contains (λ (o : ℕ). o < length wave.orders) (batch_at batches m) (get_or (batch_at batches m) 0 0) (is.each m within).known (first_of m within))
