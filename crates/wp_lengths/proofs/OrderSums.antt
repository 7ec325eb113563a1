-- Sums over orders: over all orders below a number, over lists that have them, and over lists of batches.
use Rattle.std.proofs.Common.{◌≡◌, ◌≢◌, ℕ, zero, suc, ◌+◌, ◌*◌, ◌/◌, ◌%◌, ◌<◌, ◌≤◌}
use Rattle.std.proofs.Common.{List, [], ◌∷◌, ◌++◌, length, get_or, take, arith, refl, ap, sym, ◌∙◌, subst}
use Rattle.std.proofs.Common.{⊎_elim, Contains}
use Rattle.std.specs.Prelude.{sum, sum_by, slice_index}
use Rattle.std.proofs.Math.Nat.{div-add-mod, mod-lt}
use Rattle.std.proofs.lemmas.List.{take_all}
use Rattle.std.proofs.lemmas.List.Sums.{sum_by-cons, sum_by_more}
use Rattle.std.proofs.lemmas.List.Elements.{Contains-append_left, Contains-append_right}
use Rattle.wp_pairs.proofs.Members.{contains_cases, contains_first, contains_later, contains_none}
use Rattle.wp_lengths.specs.Batchings.{batch_at}

-- a list without one of its numbers: the others are still in it, and the sum is less by the value of that one
pub record LeavesOut (f : ℕ → ℕ) (xs : List ℕ) (x : ℕ) : Type 0 where
  pub rest : List ℕ
  pub sums : sum_by f xs ≡ f x + sum_by f rest
  pub others : (y : ℕ) → Contains xs y → y ≢ x → Contains rest y

-- a number can be left out of a list that has it
pub leave_out : (f : ℕ → ℕ) (xs : List ℕ) (x : ℕ) → Contains xs x → LeavesOut f xs x
leave_out f [] x has = absurd (contains_none x has)
leave_out f (z ∷ zs) x has =
    ⊎_elim
    (λ (e : z ≡ x). record {
      rest = zs;
      sums = sum_by-cons f z zs ∙ ap (λ (k : ℕ). f k + sum_by f zs) e;
      others = λ y h ne. ⊎_elim (λ (same : z ≡ y). absurd (ne (sym same ∙ e))) (λ later. later) (contains_cases z y zs h);
    })
    (λ later. let r = leave_out f zs x later in record {
      rest = z ∷ r.rest;
      sums = omega (arith, sum_by-cons f z zs, r.sums, sum_by-cons f z r.rest);
      others = λ y h ne. ⊎_elim (λ (same : z ≡ y). subst (λ (k : ℕ). Contains (z ∷ r.rest) k) same (contains_first z r.rest))
          (λ l. contains_later z y r.rest (r.others y l ne)) (contains_cases z y zs h);
    })
    (contains_cases z x zs has)

-- the sum over all numbers below one
pub sum_below : (ℕ → ℕ) → ℕ → ℕ
sum_below f zero = 0
sum_below f (suc n) = sum_below f n + f n

-- the same numbers have the same sum
pub same_below : (f g : ℕ → ℕ) (n : ℕ) → ((k : ℕ) → k < n → f k ≡ g k) → sum_below f n ≡ sum_below g n
unfolding sum_below
same_below f g zero same = refl
same_below f g (suc n) same = omega (arith, same_below f g n (λ k within. same k (omega (arith, within))), same n (omega arith))

-- a list that has all numbers below one has no smaller sum
pub covering_sum : (f : ℕ → ℕ) (n : ℕ) (xs : List ℕ) → ((i : ℕ) → i < n → Contains xs i) → sum_below f n ≤ sum_by f xs
unfolding sum_below
covering_sum f zero xs all = omega arith
covering_sum f (suc n) xs all =
    let out = leave_out f xs n (all n (omega arith)) in
    let low = covering_sum f n out.rest (λ i lt. out.others i (all i (omega arith)) (omega arith)) in
    omega (arith, out.sums, low)

taken_sum : (xs : List ℕ) (k : ℕ) → k ≤ length xs → sum (take k xs) ≡ sum_below (slice_index xs) k
unfolding sum_below
taken_sum xs zero within = refl
taken_sum xs (suc k) within =
    let e : k + 1 ≡ suc k = omega arith in
    let before = taken_sum xs k (omega arith) in
    let more = sum_by_more (λ (x : ℕ). x) xs k 0 (omega arith) in
    subst (λ (j : ℕ). sum (take j xs) ≡ sum_below (slice_index xs) k + slice_index xs k) e (more ∙ ap (λ (s : ℕ). s + get_or xs k 0) before)

-- the sum of a list is that over all its places
pub sum_of_places : (xs : List ℕ) → sum xs ≡ sum_below (slice_index xs) (length xs)
sum_of_places xs = ap (λ (ys : List ℕ). sum ys) (sym (take_all (length xs) xs (omega arith))) ∙ taken_sum xs (length xs) (omega arith)

-- all orders of a list of batches, batch by batch
abbrev pub all_of : List (List ℕ) → List ℕ
all_of [] = []
all_of (batch ∷ batches) = batch ++ all_of batches

-- what a batch of the list has is among them
pub in_all : (batches : List (List ℕ)) (place order : ℕ) → place < length batches → Contains (batch_at batches place) order → Contains (all_of batches) order
in_all [] place order within has = absurd (omega arith)
in_all (batch ∷ batches) zero order within has = Contains-append_left batch (all_of batches) order has
in_all (batch ∷ batches) (suc place) order within has =
    Contains-append_right batch (all_of batches) order (in_all batches place order (omega arith) has)

-- so many sixtieths are no more than so many whole units, rounded up
pub units_at_most : (sixtieths units : ℕ) → sixtieths ≤ 60 * units → (sixtieths + 59) / 60 ≤ units
units_at_most sixtieths units low =
    let small : (sixtieths + 59) % 60 < 60 = mod-lt (sixtieths + 59) (omega arith) in omega (arith, div-add-mod (sixtieths + 59) 60, small)
