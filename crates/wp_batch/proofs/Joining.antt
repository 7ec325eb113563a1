-- Joining two batches of a batching gives a batching, listed by least orders as before.
use Rattle.std.proofs.Common.{◌≡◌, ◌≢◌, ℕ, ◌+◌, ◌-◌, ◌<◌, ◌≤◌, ◌↔◌, List, [], length, get_or, set, arith, refl, ap, sym, ◌∙◌, subst, inl, inr, ◌⊎◌}
use Rattle.std.proofs.Common.{⊎_elim, Contains}
use Rattle.std.specs.Prelude.{remove}
use Rattle.std.proofs.lemmas.Bool.{cases_eq, cases_lt}
use Rattle.std.proofs.lemmas.List.Edits.{get_or-remove_above, get_or-remove_below, length-remove}
use Rattle.std.proofs.lemmas.List.Elements.{All-contains, Contains-get_or}
use Rattle.std.proofs.lemmas.List.{get_or-set_other, get_or-set_same, get_or_default, length-set}
use Rattle.wp_pairs.specs.Batches.{IsBatch}
use Rattle.wp_pairs.specs.Carts.{FitsAnyCart}
use Rattle.wp_pairs.specs.Permitted.{IsPermitted}
use Rattle.wp_batch.specs.Joins.{FitInOne}
use Rattle.wp_lengths.specs.Batchings.{IsBatching, IsListedByLeast, batch_at, no_pairs}
use Rattle.wp_lengths.specs.Waves.{WavePicks}
use Rattle.wp_lengths.proofs.Loads.{IsUnion, apart_count, apart_fit, union_fits}
use Rattle.wp_lengths.proofs.Ascending.{first_least}
use Rattle.wp_lengths.proofs.NoPairs.{permitted_alone}

-- two batches of a batching, the earlier first, and a batch of the orders of both, which fits
pub record IsJoin (wave : WavePicks) (capacity : ℕ) (batches : List (List ℕ)) (i j : ℕ) (union : List ℕ) : Type 0 where
  pub batching : IsBatching wave capacity batches
  pub listed : IsListedByLeast batches
  pub order : i < j
  pub within : j < length batches
  pub is : IsBatch union
  pub of_both : (p : ℕ) → Contains union p ↔ (Contains (batch_at batches i) p ⊎ Contains (batch_at batches j) p)
  pub fits : length union ≤ capacity
  pub light : FitsAnyCart wave.cart union

module _ (wave : WavePicks) (capacity : ℕ) (batches : List (List ℕ)) (i j : ℕ) (union : List ℕ) (h : IsJoin wave capacity batches i j union) where
  after : List (List ℕ)
  after = remove (set batches i union) j

  inside : j < length (set batches i union)
  inside = omega (arith, h.within, length-set batches i union)

  fewer : length (remove (set batches i union) j) + 1 ≡ length batches
  fewer = length-remove (set batches i union) j inside ∙ length-set batches i union

  at_join : batch_at (remove (set batches i union) j) i ≡ union
  at_join = get_or-remove_below (set batches i union) j [] i h.order inside ∙ get_or-set_same batches i union [] (omega (arith, h.order, h.within))

  at_low : (k : ℕ) → k < j → k ≢ i → batch_at (remove (set batches i union) j) k ≡ batch_at batches k
  at_low k low ne = get_or-remove_below (set batches i union) j [] k low inside ∙ get_or-set_other batches i k union [] ne

  at_high : (k : ℕ) → j ≤ k → batch_at (remove (set batches i union) j) k ≡ batch_at batches (k + 1)
  at_high k high =
      let ne : k + 1 ≢ i = omega (arith, h.order) in
      get_or-remove_above (set batches i union) j [] k high inside ∙ get_or-set_other batches i (k + 1) union [] ne

  -- where a batch of the new list comes from
  record Source (order k : ℕ) : Type 0 where
    old : ℕ
    old_within : old < length batches
    has : Contains (batch_at batches old) order
    joined : old ≡ j → k ≡ i
    low : old < j → k ≡ old
    high : j < old → k + 1 ≡ old

  source : (order k : ℕ) → k < length (remove (set batches i union) j) → Contains (batch_at (remove (set batches i union) j) k) order → Source order k
  source order k within has = ⊎_elim
      (λ (e : k ≡ i).
      let in_union : Contains union order = subst (λ (xs : List ℕ). Contains xs order) (ap (batch_at (remove (set batches i union) j)) e ∙ at_join) has in
      ⊎_elim
      (λ left. record {
        old = i;
        old_within = omega (arith, h.order, h.within);
        has = left;
        joined = λ (s : i ≡ j). e;
        low = λ l. e;
        high = λ l. absurd (omega (arith, h.order));
      })
      (λ right. record {
        old = j;
        old_within = h.within;
        has = right;
        joined = λ (s : j ≡ j). e;
        low = λ l. absurd (omega arith);
        high = λ l. absurd (omega arith);
      })
      ((h.of_both order).0 in_union))
      (λ (ne : k ≢ i). ⊎_elim
      (λ (lt : k < j). record {
        old = k;
        old_within = omega (arith, h.within);
        has = subst (λ (xs : List ℕ). Contains xs order) (at_low k lt ne) has;
        joined = λ (s : k ≡ j). absurd (omega arith);
        low = λ l. refl;
        high = λ l. absurd (omega arith);
      })
      (λ (ge : j ≤ k). record {
        old = k + 1;
        old_within = omega (arith, within, fewer);
        has = subst (λ (xs : List ℕ). Contains xs order) (at_high k ge) has;
        joined = λ (s : k + 1 ≡ j). absurd (omega arith);
        low = λ l. absurd (omega arith);
        high = λ l. refl;
      })
      (cases_lt k j))
      (cases_eq k i)

  one_place : (left right old : ℕ) (order : ℕ) (s : Source order left) (t : Source order right) → s.old ≡ t.old → left ≡ right
  one_place left right old order s t same = ⊎_elim
      (λ (e : s.old ≡ j). s.joined e ∙ sym (t.joined (sym same ∙ e)))
      (λ (ne : s.old ≢ j). ⊎_elim
      (λ (lt : s.old < j). omega (arith, s.low lt, t.low (omega arith)))
      (λ (ge : j ≤ s.old). omega (arith, s.high (omega arith), t.high (omega arith)))
      (cases_lt s.old j))
      (cases_eq s.old j)

  covers : (order : ℕ) → order < length wave.orders
      → (place : ℕ) × (place < length (remove (set batches i union) j)) × Contains (batch_at (remove (set batches i union) j) place) order
  covers order known =
      let old = h.batching.covered order known in
      let place = old.0 in
      ⊎_elim
      (λ (e : place ≡ j). (
        i,
        omega (arith, fewer, h.order, h.within),
        subst (λ (xs : List ℕ). Contains xs order) (sym at_join) ((h.of_both order).1 (inr (subst (λ (k : ℕ). Contains (batch_at batches k) order) e old.2))),
      ))
      (λ (nj : place ≢ j). ⊎_elim
      (λ (e : place ≡ i). (
        i,
        omega (arith, fewer, h.order, h.within),
        subst (λ (xs : List ℕ). Contains xs order) (sym at_join) ((h.of_both order).1 (inl (subst (λ (k : ℕ). Contains (batch_at batches k) order) e old.2))),
      ))
      (λ (ni : place ≢ i). ⊎_elim
      (λ (lt : place < j). (place, omega (arith, fewer, h.within), subst (λ (xs : List ℕ). Contains xs order) (sym (at_low place lt ni)) old.2))
      (λ (ge : j ≤ place).
      let back : place - 1 + 1 ≡ place = omega arith in (
        place - 1,
        omega (arith, fewer, old.1),
        subst (λ (xs : List ℕ). Contains xs order) (sym (at_high (place - 1) (omega arith)))
            (subst (λ (k : ℕ). Contains (batch_at batches k) order) (sym back) old.2),
      ))
      (cases_lt place j))
      (cases_eq place i))
      (cases_eq place j)

  union_permitted : IsPermitted (no_pairs wave capacity) union
  union_permitted =
      let left = h.batching.each i (omega (arith, h.order, h.within)) in
      let right = h.batching.each j h.within in
      let first = (h.of_both (get_or (batch_at batches i) 0 0)).1 (inl (Contains-get_or (batch_at batches i) 0 0 left.filled)) in
      permitted_alone wave capacity union h.is (omega (arith, first.1)) h.fits h.light
      (λ order has. ⊎_elim (λ l. All-contains (λ (o : ℕ). o < length wave.orders) (batch_at batches i) order left.known l)
      (λ r. All-contains (λ (o : ℕ). o < length wave.orders) (batch_at batches j) order right.known r) ((h.of_both order).0 has))

  permits : (place : ℕ) → place < length (remove (set batches i union) j)
      → IsPermitted (no_pairs wave capacity) (batch_at (remove (set batches i union) j) place)
  permits place within = ⊎_elim
      (λ (e : place ≡ i). subst (IsPermitted (no_pairs wave capacity)) (sym (ap (batch_at (remove (set batches i union) j)) e ∙ at_join)) union_permitted)
      (λ (ne : place ≢ i). ⊎_elim
      (λ (lt : place < j). subst (IsPermitted (no_pairs wave capacity)) (sym (at_low place lt ne)) (h.batching.each place (omega (arith, h.within))))
      (λ (ge : j ≤ place). subst (IsPermitted (no_pairs wave capacity)) (sym (at_high place ge)) (h.batching.each (place + 1) (omega (arith, within, fewer))))
      (cases_lt place j))
      (cases_eq place i)

  -- after the join the batches are a batching
  pub join_is_batching : IsBatching wave capacity (remove (set batches i union) j)
  join_is_batching = record {
    each = permits;
    covered = covers;
    once = λ order left right l r has has_too.
        let s = source order left l has in
        let t = source order right r has_too in
        one_place left right s.old order s t (h.batching.once order s.old t.old s.old_within t.old_within s.has t.has);
  }

  union_first : get_or union 0 0 ≡ get_or (batch_at batches i) 0 0
  union_first =
      let left = h.batching.each i (omega (arith, h.order, h.within)) in
      let right = h.batching.each j h.within in
      let of_left = Contains-get_or (batch_at batches i) 0 0 left.filled in
      let up = first_least union (get_or (batch_at batches i) 0 0) h.is.ascending ((h.of_both (get_or (batch_at batches i) 0 0)).1 (inl of_left)) in
      let first = Contains-get_or union 0 0 union_permitted.filled in
      let before = h.listed i j h.order h.within in
      let down : get_or (batch_at batches i) 0 0 ≤ get_or union 0 0 = ⊎_elim
      (λ l. first_least (batch_at batches i) (get_or union 0 0) left.ascending l)
      (λ r. omega (arith, before, first_least (batch_at batches j) (get_or union 0 0) right.ascending r))
      ((h.of_both (get_or union 0 0)).0 first) in
      omega (arith, up, down)

  -- the batch of the old list that begins as a batch of the new one does
  record FirstOf (k : ℕ) : Type 0 where
    old : ℕ
    old_within : old < length batches
    same : get_or (batch_at (remove (set batches i union) j) k) 0 0 ≡ get_or (batch_at batches old) 0 0
    low : k < j → old ≡ k
    high : j ≤ k → old ≡ k + 1

  first_of : (k : ℕ) → k < length (remove (set batches i union) j) → FirstOf k
  first_of k within = ⊎_elim
      (λ (e : k ≡ i). record {
        old = i;
        old_within = omega (arith, h.order, h.within);
        same = ap (λ (p : ℕ). get_or (batch_at (remove (set batches i union) j) p) 0 0) e ∙ (ap (λ (xs : List ℕ). get_or xs 0 0) at_join ∙ union_first);
        low = λ l. sym e;
        high = λ l. absurd (omega (arith, h.order));
      })
      (λ (ne : k ≢ i). ⊎_elim
      (λ (lt : k < j). record {
        old = k;
        old_within = omega (arith, h.within);
        same = ap (λ (xs : List ℕ). get_or xs 0 0) (at_low k lt ne);
        low = λ l. refl;
        high = λ l. absurd (omega arith);
      })
      (λ (ge : j ≤ k). record {
        old = k + 1;
        old_within = omega (arith, within, fewer);
        same = ap (λ (xs : List ℕ). get_or xs 0 0) (at_high k ge);
        low = λ l. absurd (omega arith);
        high = λ l. refl;
      })
      (cases_lt k j))
      (cases_eq k i)

  -- after the join the batches are listed by their least orders
  pub join_is_listed : IsListedByLeast (remove (set batches i union) j)
  join_is_listed = λ left right lt within.
      let f = first_of left (omega arith) in
      let g = first_of right within in
      let below : f.old < g.old = ⊎_elim
      (λ (low : right < j). omega (arith, f.low (omega arith), g.low low))
      (λ (high : j ≤ right). ⊎_elim
      (λ (low : left < j). omega (arith, f.low low, g.high high))
      (λ (high_too : j ≤ left). omega (arith, f.high high_too, g.high high))
      (cases_lt left j))
      (cases_lt right j) in
      omega (arith, h.listed f.old g.old below g.old_within, f.same, g.same)

-- two batches as they were read, and the batch of both
pub joins_read : (wave : WavePicks) (capacity : ℕ) (batches : List (List ℕ)) (i j : ℕ) (left right union : List ℕ) → IsBatching wave capacity batches
    → IsListedByLeast batches → i < j → j < length batches → FitInOne wave capacity (batch_at batches i) (batch_at batches j)
    → left ≡ get_or batches i left → right ≡ get_or batches j right → IsBatch union
    → ((p : ℕ) → Contains union p ↔ (Contains left p ⊎ Contains right p)) → length union ≤ length left + length right
    → IsJoin wave capacity batches i j union
joins_read wave capacity batches i j left right union batching listed order within fits l r is of_both count =
    let l_is : left ≡ batch_at batches i = l ∙ get_or_default batches i left [] (omega (arith, order, within)) in
    let r_is : right ≡ batch_at batches j = r ∙ get_or_default batches j right [] within in
    let both : (p : ℕ) → Contains union p ↔ (Contains (batch_at batches i) p ⊎ Contains (batch_at batches j) p) = λ p. (
      λ h. ⊎_elim (λ a. inl (subst (λ (xs : List ℕ). Contains xs p) l_is a)) (λ b. inr (subst (λ (xs : List ℕ). Contains xs p) r_is b)) ((of_both p).0 h),
      λ h. (of_both p).1 (⊎_elim (λ a. inl (subst (λ (xs : List ℕ). Contains xs p) (sym l_is) a))
          (λ b. inr (subst (λ (xs : List ℕ). Contains xs p) (sym r_is) b)) h),
    ) in
    record {
      batching = batching;
      listed = listed;
      order = order;
      within = within;
      is = is;
      of_both = both;
      fits = omega (arith, count, fits.few, ap (λ (xs : List ℕ). length xs) l_is, ap (λ (xs : List ℕ). length xs) r_is);
      light = union_fits wave.cart (batch_at batches i) (batch_at batches j) union (record {
        left_ascends = (batching.each i (omega (arith, order, within))).ascending;
        right_ascends = (batching.each j within).ascending;
        ascends = is.ascending;
        of_both = both;
      }) fits.light;
    }

-- two batches of a batching fit into one exactly where the batch of all their orders is permitted where there is no pair
pub permitted_as_one : (wave : WavePicks) (capacity : ℕ) (batches : List (List ℕ)) (i j : ℕ) (union : List ℕ) → IsBatching wave capacity batches
    → i < j → j < length batches → IsBatch union → ((p : ℕ) → Contains union p ↔ (Contains (batch_at batches i) p ⊎ Contains (batch_at batches j) p))
    → FitInOne wave capacity (batch_at batches i) (batch_at batches j) ↔ IsPermitted (no_pairs wave capacity) union
permitted_as_one wave capacity batches i j union batching order within is of_both =
    let inside : i < length batches = omega (arith, order, within) in
    let left = batching.each i inside in
    let right = batching.each j within in
    let union_is : IsUnion (batch_at batches i) (batch_at batches j) union = record {
      left_ascends = left.ascending;
      right_ascends = right.ascending;
      ascends = is.ascending;
      of_both = of_both;
    } in
    let apart = λ (p : ℕ) (l : Contains (batch_at batches i) p) (r : Contains (batch_at batches j) p).
    let same = batching.once p i j inside within l r in let none : ⊥ = omega (arith, same, order) in none in
    let count = apart_count (batch_at batches i) (batch_at batches j) union union_is apart in
    let first = (of_both (get_or (batch_at batches i) 0 0)).1 (inl (Contains-get_or (batch_at batches i) 0 0 left.filled)) in (
      λ fit. permitted_alone wave capacity union is (omega (arith, first.1)) (omega (arith, count, fit.few))
          (union_fits wave.cart _ _ union union_is fit.light)
          (λ p has. ⊎_elim (λ l. All-contains (λ (o : ℕ). o < length wave.orders) (batch_at batches i) p left.known l)
          (λ r. All-contains (λ (o : ℕ). o < length wave.orders) (batch_at batches j) p right.known r) ((of_both p).0 has)),
      λ permitted. record { few = omega (arith, count, permitted.fits); light = apart_fit wave.cart _ _ union union_is apart permitted.light },
    )
