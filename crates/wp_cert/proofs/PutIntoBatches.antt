-- Orders that are put into batches: in ascending order the batches are a batching, and a batching puts its orders so.
use Rattle.std.proofs.Common.{◌≡◌, ◌≢◌, ℕ, zero, suc, ◌+◌, ◌<◌, ◌≤◌, ◌↔◌, cond, List, [], ◌∷◌, length, get_or, arith, refl, ap, sym, ◌∙◌, subst, inl, inr}
use Rattle.std.proofs.Common.{⊎_elim}
use Rattle.std.proofs.Common.{All, Contains, Option, None, Some}
use Rattle.std.proofs.lemmas.Bool.{cases_eq, cases_lt, eq-eqb, ne_eqb}
use Rattle.std.proofs.lemmas.List.{get_or_default}
use Rattle.std.proofs.lemmas.List.Elements.{All-contains, Contains-get_or}
use Rattle.std.proofs.lemmas.List.Sums.{sum_by-cons}
use Rattle.std.specs.Prelude.{nat_eq, slice_index, sum_by}
use Rattle.std.specs.List.{count_by}
use Rattle.std.specs.List.Sorted.{IsStrictlyIncreasing}
use Rattle.wp_pairs.specs.Carts.{FitsAnyCart, LoadedCart}
use Rattle.wp_pairs.specs.Permitted.{IsPermitted}
use Rattle.wp_pairs.proofs.Classes.{head_below, tail_ascends}
use Rattle.wp_pairs.proofs.KeptPairs.{in_or_not}
use Rattle.wp_pairs.proofs.Members.{contains_cases, contains_first, contains_later, contains_none}
use Rattle.wp_lengths.specs.Batchings.{IsBatching, batch_at, no_pairs}
use Rattle.wp_lengths.specs.Waves.{WavePicks}
use Rattle.wp_lengths.proofs.Ascending.{single_ascends}
use Rattle.wp_lengths.proofs.Loads.{union_weighs}
use Rattle.wp_lengths.proofs.Unions.{all_from_contained}
use Rattle.wp_cert.specs.Bounds.{PutBatchesAreBatchings}
use Rattle.wp_cert.specs.Walks.{ArePutIntoBatches, times_in}
use Rattle.wp_cert.proofs.AscendingUnions.{one_in}

-- ---- how often a number stands in a list

first_counted : (x y : ℕ) (ys : List ℕ) → count_by (nat_eq x) (y ∷ ys) ≡ cond (nat_eq x y) 1 0 + count_by (nat_eq x) ys
first_counted x y ys = sum_by-cons (λ (n : ℕ). cond (nat_eq x n) 1 0) y ys

counted_here : (x y : ℕ) → x ≡ y → ◌≡◌ {A = ℕ} (cond (nat_eq x y) 1 0) 1
counted_here x y same = rw (eq-eqb x y same) refl

not_here : (x y : ℕ) → x ≢ y → ◌≡◌ {A = ℕ} (cond (nat_eq x y) 1 0) 0
not_here x y other = rw (ne_eqb x y other) refl

-- what a list contains stands in it
some_counted : (xs : List ℕ) (x : ℕ) → Contains xs x → 1 ≤ count_by (nat_eq x) xs
some_counted [] x has = absurd (contains_none x has)
some_counted (y ∷ ys) x has = ⊎_elim (λ (same : y ≡ x). omega (arith, first_counted x y ys, counted_here x y (sym same)))
    (λ later. omega (arith, first_counted x y ys, some_counted ys x later)) (contains_cases y x ys has)

counted_some : (xs : List ℕ) (x : ℕ) → 1 ≤ count_by (nat_eq x) xs → Contains xs x
counted_some [] x some = absurd (omega (arith, some))
counted_some (y ∷ ys) x some = ⊎_elim (λ (same : x ≡ y). subst (λ (z : ℕ). Contains (y ∷ ys) z) (sym same) (contains_first y ys))
    (λ (other : x ≢ y). contains_later y x ys (counted_some ys x (omega (arith, some, first_counted x y ys, not_here x y other)))) (cases_eq x y)

none_counted : (xs : List ℕ) (x : ℕ) → (Contains xs x → ⊥) → count_by (nat_eq x) xs ≡ 0
none_counted xs x none = ⊎_elim (λ (some : 0 < count_by (nat_eq x) xs). absurd (none (counted_some xs x (omega (arith, some)))))
    (λ (zero_of : count_by (nat_eq x) xs ≤ 0). omega (arith, zero_of)) (cases_lt 0 (count_by (nat_eq x) xs))

-- in an ascending list it stands once at most
once_counted : (xs : List ℕ) (x : ℕ) → IsStrictlyIncreasing xs → count_by (nat_eq x) xs ≤ 1
once_counted [] x up = omega arith
once_counted (y ∷ ys) x up = ⊎_elim
    (λ (same : x ≡ y). let none = none_counted ys x (λ has. let above = head_below y ys up x has in omega (arith, same, above)) in
    omega (arith, first_counted x y ys, counted_here x y same, none))
    (λ (other : x ≢ y). omega (arith, first_counted x y ys, not_here x y other, once_counted ys x (tail_ascends y ys up))) (cases_eq x y)

-- ---- how often an order stands in batches

in_times : (batches : List (List ℕ)) (place order : ℕ) → place < length batches → Contains (batch_at batches place) order → 1 ≤ times_in batches order
in_times [] place order low has = absurd (omega arith)
in_times (batch ∷ batches) zero order low has = omega (arith, some_counted batch order has)
in_times (batch ∷ batches) (suc place) order low has = omega (arith, in_times batches place order (omega arith) has)

times_some : (batches : List (List ℕ)) (order : ℕ) → 1 ≤ times_in batches order
    → (place : ℕ) × (place < length batches) × Contains (batch_at batches place) order
times_some [] order some = absurd (omega (arith, some))
times_some (batch ∷ batches) order some = ⊎_elim (λ has. (0, omega arith, has))
    (λ none. let at = times_some batches order (omega (arith, some, none_counted batch order none)) in (suc at.0, omega (arith, at.1), at.2))
    (in_or_not batch order)

times_once : (batches : List (List ℕ)) (order left right : ℕ) → times_in batches order ≤ 1 → left < length batches → right < length batches
    → Contains (batch_at batches left) order → Contains (batch_at batches right) order → left ≡ right
times_once [] order left right most l r has has_too = absurd (omega arith)
times_once (batch ∷ batches) order zero zero most l r has has_too = refl
times_once (batch ∷ batches) order zero (suc right) most l r has has_too =
    absurd (omega (arith, most, some_counted batch order has, in_times batches right order (omega arith) has_too))
times_once (batch ∷ batches) order (suc left) zero most l r has has_too =
    absurd (omega (arith, most, some_counted batch order has_too, in_times batches left order (omega arith) has))
times_once (batch ∷ batches) order (suc left) (suc right) most l r has has_too =
    ap suc (times_once batches order left right (omega (arith, most)) (omega arith) (omega arith) has has_too)

times_most : (batches : List (List ℕ)) (order : ℕ) → ((place : ℕ) → place < length batches → IsStrictlyIncreasing (batch_at batches place))
    → ((left right : ℕ) → left < length batches → right < length batches → Contains (batch_at batches left) order
    → Contains (batch_at batches right) order → left ≡ right) → times_in batches order ≤ 1
times_most [] order each once = omega arith
times_most (batch ∷ batches) order each once =
    let fewer = times_most batches order (λ place low. each (suc place) (omega (arith, low)))
    (λ left right l r has has_too. let same : suc left ≡ suc right = once (suc left) (suc right) (omega (arith, l)) (omega (arith, r)) has has_too in
    omega (arith, same)) in ⊎_elim
    (λ has. ⊎_elim (λ (some : 0 < times_in batches order).
    let at = times_some batches order (omega (arith, some)) in
    let same : zero ≡ suc at.0 = once zero (suc at.0) (omega arith) (omega (arith, at.1)) has at.2 in absurd (omega (arith, same)))
    (λ (none : times_in batches order ≤ 0). omega (arith, none, once_counted batch order (each zero (omega arith)))) (cases_lt 0 (times_in batches order)))
    (λ none. omega (arith, fewer, none_counted batch order none)) (in_or_not batch order)

-- ---- batches in ascending order

-- a list in ascending order, with each number once
pub record IsAscending (xs ys : List ℕ) : Type 0 where
  pub ascending : IsStrictlyIncreasing ys
  pub same : (x : ℕ) → Contains ys x ↔ Contains xs x
  pub count : length ys ≤ length xs
  pub weight : (f : ℕ → ℕ) → sum_by f ys ≤ sum_by f xs

pub sorted : (xs : List ℕ) → (ys : List ℕ) × IsAscending xs ys
sorted [] = (
  [],
  record {
    ascending = λ k within. absurd (omega (arith, within));
    same = λ x.
        (λ has. has, λ has. has);
    count = omega arith;
    weight = λ f. omega arith;
  },
)
sorted (x ∷ xs) =
    let rest = sorted xs in
    let all = one_in x rest.0 rest.1.ascending in (
      all.0,
      record {
        ascending = all.1.ascending;
        same = λ z. (
          λ has. ⊎_elim (λ first. ⊎_elim (λ (e : x ≡ z). subst (λ (y : ℕ). Contains (x ∷ xs) y) e (contains_first x xs))
              (λ none. absurd (contains_none z none)) (contains_cases x z [] first))
              (λ later. contains_later x z xs ((rest.1.same z).0 later)) ((all.1.both z).0 has),
          λ has. ⊎_elim (λ (e : x ≡ z). (all.1.both z).1 (inl (subst (λ (y : ℕ). Contains (x ∷ []) y) e (contains_first x []))))
              (λ later. (all.1.both z).1 (inr ((rest.1.same z).1 later))) (contains_cases x z xs has),
        );
        count = omega (arith, all.1.count, rest.1.count);
        weight = λ f. omega (
          arith,
          union_weighs f (x ∷ []) rest.0 all.0 (record {
            left_ascends = single_ascends x;
            right_ascends = rest.1.ascending;
            ascends = all.1.ascending;
            of_both = all.1.both;
          }),
          rest.1.weight f,
          sum_by-cons f x xs,
          sum_by-cons f x [],
        );
      },
    )

-- each batch so
abbrev pub sorted_all : List (List ℕ) → List (List ℕ)
sorted_all [] = []
sorted_all (batch ∷ batches) = (sorted batch).0 ∷ sorted_all batches

all_sorted : (batches : List (List ℕ)) → length (sorted_all batches) ≡ length batches
all_sorted [] = refl
all_sorted (batch ∷ batches) = omega (arith, all_sorted batches)

sorted_at : (batches : List (List ℕ)) (place : ℕ) → place < length batches → IsAscending (batch_at batches place) (batch_at (sorted_all batches) place)
sorted_at [] place low = absurd (omega arith)
sorted_at (batch ∷ batches) zero low = (sorted batch).1
sorted_at (batch ∷ batches) (suc place) low = sorted_at batches place (omega arith)

-- what weighs no more than a batch that fits a cart fits it
lighter_fits : (cart : Option LoadedCart) (batch lighter : List ℕ) → ((f : ℕ → ℕ) → sum_by f lighter ≤ sum_by f batch) → FitsAnyCart cart batch
    → FitsAnyCart cart lighter
lighter_fits None batch lighter less light = tt
lighter_fits (Some held) batch lighter less light = omega (arith, less (slice_index held.loads), light)

-- orders that are put into batches are a batching, where these are listed in ascending order
put_in_order : (wave : WavePicks) (capacity : ℕ) (batches lists : List (List ℕ)) → length lists ≡ length batches
    → ((place : ℕ) → place < length batches → IsAscending (batch_at batches place) (batch_at lists place)) → ArePutIntoBatches wave capacity batches
    → IsBatching wave capacity lists
put_in_order wave capacity batches lists count at_place put = record {
  each = λ place low. permits place (omega (arith, low, count));
  covered = λ order low. let at = times_some batches order (omega (arith, put.once order low)) in
      (at.0, omega (arith, at.1, count), ((at_place at.0 at.1).same order).1 at.2);
  once = λ order left right l r has has_too.
      let low_left : left < length batches = omega (arith, l, count) in
      let low_right : right < length batches = omega (arith, r, count) in
      let here = ((at_place left low_left).same order).0 has in
      let known = All-contains (λ (o : ℕ). o < length wave.orders) (batch_at batches left) order (put.known left [] low_left) here in
      times_once batches order left right (omega (arith, put.once order known)) low_left low_right here
      (((at_place right low_right).same order).0 has_too);
}
  where
    permits : (place : ℕ) → place < length batches → IsPermitted (no_pairs wave capacity) (batch_at lists place)
    permits place low =
        let batch = batch_at batches place in
        let s = at_place place low in
        let first = (s.same (get_or batch 0 0)).1 (Contains-get_or batch 0 0 (put.filled place [] low)) in record {
          ascending = s.ascending;
          filled = omega (arith, first.1);
          fits = omega (arith, s.count, put.fits place [] low);
          light = lighter_fits wave.cart batch (batch_at lists place) s.weight (put.light place [] low);
          known = all_from_contained (λ (order : ℕ). order < length wave.orders) (batch_at lists place)
              (λ order has. All-contains (λ (o : ℕ). o < length wave.orders) batch order (put.known place [] low) ((s.same order).0 has));
          together = λ pair added kind. absurd (omega (arith, added.1));
          apart = λ pair added kind both. omega (arith, added.1);
        }

pub put_is_batching : (wave : WavePicks) (capacity : ℕ) (batches : List (List ℕ)) → ArePutIntoBatches wave capacity batches
    → IsBatching wave capacity (sorted_all batches)
put_is_batching wave capacity batches put =
    put_in_order wave capacity batches (sorted_all batches) (all_sorted batches) (sorted_at batches) put

-- what holds of each batch by its place holds of all
pub all_places : (P : List ℕ → Type 0) (batches : List (List ℕ)) → ((place : ℕ) → place < length batches → P (batch_at batches place)) → All P batches
all_places P batches each = all_from_contained P batches
    (λ batch has. subst P (get_or_default batches has.0 [] batch has.1 ∙ has.2) (each has.0 has.1))

-- and a batching puts its orders into batches
pub batching_is_put : (wave : WavePicks) (capacity : ℕ) (batches : List (List ℕ)) → IsBatching wave capacity batches → ArePutIntoBatches wave capacity batches
batching_is_put wave capacity batches is = record {
  filled = all_places (λ (batch : List ℕ). 0 < length batch) batches (λ place low. (is.each place low).filled);
  fits = all_places (λ (batch : List ℕ). length batch ≤ capacity) batches (λ place low. (is.each place low).fits);
  known = all_places (λ (batch : List ℕ). All (λ (order : ℕ). order < length wave.orders) batch) batches (λ place low. (is.each place low).known);
  light = all_places (FitsAnyCart wave.cart) batches (λ place low. (is.each place low).light);
  once = λ order low.
      let at = is.covered order low in
      let some = in_times batches at.0 order at.1 at.2 in
      let most = times_most batches order (λ place within. (is.each place within).ascending) (is.once order) in
      omega (arith, some, most);
}

-- so are those whose batches ascend
pub ascending_put_is_batching : PutBatchesAreBatchings
ascending_put_is_batching = λ wave capacity batches put ascend. put_in_order wave capacity batches batches refl (λ place low. record {
  ascending = ascend place [] low;
  same = λ x. (λ has. has, λ has. has);
  count = omega arith;
  weight = λ f. omega arith;
}) put
