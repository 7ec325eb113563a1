-- Each order by itself is a batching.
use Rattle.std.proofs.Common.{◌≡◌, ◌≢◌, ℕ, ◌+◌, ◌<◌, ◌≤◌, ◌↔◌, List, [], ◌∷◌, ◌++◌, length, length-append, get_or, arith, refl, ap, sym, ◌∙◌, subst, inr, ◌⊎◌}
use Rattle.std.proofs.Common.{⊎_elim, Contains}
use Rattle.std.proofs.lemmas.Bool.{cases_eq, cases_lt}
use Rattle.std.proofs.lemmas.List.Elements.{Contains-get_or}
use Rattle.std.proofs.lemmas.List.{get_or_append_left, get_or_push}
use Rattle.wp_pairs.specs.Batches.{IsBatch}
use Rattle.wp_lengths.specs.Batchings.{IsBatching, IsListedByLeast, batch_at}
use Rattle.wp_lengths.specs.Waves.{IsWave, WavePicks}
use Rattle.wp_lengths.proofs.NoPairs.{alone_fits, permitted_alone}
use Rattle.wp_lengths.proofs.Unions.{nothing_in}

-- the batch at each place has that order alone
pub record AreSingles (batches : List (List ℕ)) (count : ℕ) : Type 0 where
  pub whole : length batches ≡ count
  pub each : (place : ℕ) → place < count → IsBatch (batch_at batches place)
  pub own : (place p : ℕ) → place < count → (Contains (batch_at batches place) p ↔ (p ≡ place))

-- one more
pub one_more_alone : (batches : List (List ℕ)) (batch none : List ℕ) (count : ℕ) → AreSingles batches count → none ≡ [] → IsBatch batch
    → ((p : ℕ) → Contains batch p ↔ (Contains none p ⊎ (p ≡ count))) → AreSingles (batches ++ batch ∷ []) (count + 1)
one_more_alone batches batch none count before empty is own =
    let here : batch_at (batches ++ batch ∷ []) count ≡ batch = get_or_push batches batch [] count before.whole in
    let kept = λ (k : ℕ) (low : k < count). get_or_append_left batches (batch ∷ []) [] k (omega (arith, before.whole)) in
    record {
      whole = omega (arith, length-append batches (batch ∷ []), before.whole);
      each = λ place low. ⊎_elim
          (λ (e : place ≡ count). subst IsBatch (sym (ap (batch_at (batches ++ batch ∷ [])) e ∙ here)) is)
          (λ (ne : place ≢ count). let lt : place < count = omega arith in subst IsBatch (sym (kept place lt)) (before.each place lt))
          (cases_eq place count);
      own = λ place p low. ⊎_elim
          (λ (e : place ≡ count).
          let at : batch_at (batches ++ batch ∷ []) place ≡ batch = ap (batch_at (batches ++ batch ∷ [])) e ∙ here in (
            λ h. ⊎_elim (λ old. absurd (nothing_in none p empty old)) (λ same. same ∙ sym e) ((own p).0 (subst (λ (xs : List ℕ). Contains xs p) at h)),
            λ same. subst (λ (xs : List ℕ). Contains xs p) (sym at) ((own p).1 (inr (same ∙ e))),
          ))
          (λ (ne : place ≢ count).
          let lt : place < count = omega arith in
          let old = before.own place p lt in (
            λ h. old.0 (subst (λ (xs : List ℕ). Contains xs p) (kept place lt) h),
            λ same. subst (λ (xs : List ℕ). Contains xs p) (sym (kept place lt)) (old.1 same),
          ))
          (cases_eq place count);
    }

-- an ascending list of one order alone has that order once
at_most_one : (xs : List ℕ) (x : ℕ) → IsBatch xs → ((p : ℕ) → Contains xs p → p ≡ x) → length xs ≤ 1
at_most_one xs x is own = ⊎_elim (λ (few : length xs < 2). omega arith)
    (λ (many : 2 ≤ length xs).
    let up = is.ascending 0 (omega arith) in
    let first = own (get_or xs 0 0) (Contains-get_or xs 0 0 (omega arith)) in
    let second = own (get_or xs (0 + 1) 0) (Contains-get_or xs (0 + 1) 0 (omega arith)) in
    absurd (omega (arith, up, first, second)))
    (cases_lt (length xs) 2)

-- each order by itself is a batching
pub singles_are_batching : (wave : WavePicks) (capacity : ℕ) (batches : List (List ℕ)) → IsWave wave → AreSingles batches (length wave.orders) → 1 ≤ capacity
    → IsBatching wave capacity batches
singles_are_batching wave capacity batches valid s some = record {
  each = λ place within.
      let low : place < length wave.orders = omega (arith, s.whole) in
      let own = (s.own place place low).1 refl in
      let alone = λ (p : ℕ) (has : Contains (batch_at batches place) p). (s.own place p low).0 has in
      let few = at_most_one (batch_at batches place) place (s.each place low) alone in
      permitted_alone wave capacity (batch_at batches place) (s.each place low) (omega (arith, own.1)) (omega (arith, few))
      (alone_fits wave.cart (length wave.orders) (batch_at batches place) place valid.cart low (s.each place low).ascending alone)
      (λ order has. let e = (s.own place order low).0 has in omega (arith, e));
  covered = λ order known. (order, omega (arith, s.whole), (s.own order order known).1 refl);
  once = λ order left right l r has has_too.
      sym ((s.own left order (omega (arith, s.whole))).0 has) ∙ (s.own right order (omega (arith, s.whole))).0 has_too;
}

-- and is listed by the least orders
pub singles_are_listed : (batches : List (List ℕ)) (orders : ℕ) → AreSingles batches orders → IsListedByLeast batches
singles_are_listed batches orders s = λ left right lt within.
    let first = λ (k : ℕ) (low : k < orders). let own = (s.own k k low).1 refl in
    (s.own k (get_or (batch_at batches k) 0 0) low).0 (Contains-get_or (batch_at batches k) 0 0 (omega (arith, own.1))) in
    omega (arith, first left (omega (arith, s.whole)), first right (omega (arith, s.whole)))
