-- How often batches meet a cut: further orders never fewer times, and the batches of a batching no more often than all its orders.
use Rattle.std.proofs.Common.{◌≡◌, ◌≢◌, ℕ, zero, suc, ◌+◌, ◌*◌, ◌/◌, ◌<◌, ◌≤◌, List, [], ◌∷◌, length, arith, ap, sym, subst}
use Rattle.std.proofs.Common.{⊎_elim, Contains}
use Rattle.std.specs.Prelude.{sum_by}
use Rattle.std.specs.List.Sorted.{IsStrictlyIncreasing}
use Rattle.std.proofs.Math.Nat.{div-mul-le_self, div-zero}
use Rattle.std.proofs.lemmas.Nat.{le-div}
use Rattle.std.proofs.lemmas.Bool.{cases_eq}
use Rattle.std.proofs.lemmas.Bool.Decides.{nat_tests}
use Rattle.std.proofs.lemmas.List.Sums.{sum_by-append, sum_by-cons}
use Rattle.wp_pairs.proofs.Classes.{head_below, no_heavier, tail_ascends}
use Rattle.wp_pairs.proofs.Members.{contains_first, contains_later}
use Rattle.wp_lengths.specs.Batchings.{batch_at}
use Rattle.wp_lengths.proofs.OrderSums.{LeavesOut, all_of, leave_out}
use Rattle.wp_cuts.specs.Cuts.{BatchingsMeetCutsNoMore, CutParts, FurtherOrdersMeetCutsNoLess, part_beside, cut_part, times_met, times_met_by_each}

-- a larger sum over the same divisor is no less
quotient_grows : (m n k : ℕ) → m ≤ n → m / k ≤ n / k
quotient_grows m n zero low = omega (arith, div-zero m, div-zero n)
quotient_grows m n (suc k) low = le-div (m / suc k) n (suc k) (omega arith) (omega (arith, div-mul-le_self m (suc k), low))

-- further orders never meet a cut fewer times
pub further_meet_no_less : FurtherOrdersMeetCutsNoLess
further_meet_no_less = λ cut some all up down within.
    quotient_grows (sum_by (cut_part cut) some) (sum_by (cut_part cut) all) cut.divisor (no_heavier (cut_part cut) some all up down within)

-- two quotients, rounded down, come to no more than that of the sum
quotients_add : (m n k : ℕ) → 1 ≤ k → m / k + n / k ≤ (m + n) / k
quotients_add m n k some =
    le-div (m / k + n / k) (m + n) k some (omega (arith, div-mul-le_self m k, div-mul-le_self n k, both (m / k) (n / k) k))
  where
    both : (a b k : ℕ) → (a + b) * k ≡ a * k + b * k
    both a b k = grind arith

-- the batches meet it no more often than all their orders together
each_within : (cut : CutParts) (batches : List (List ℕ)) → 1 ≤ cut.divisor → times_met_by_each cut batches ≤ times_met cut (all_of batches)
each_within cut [] some = omega arith
each_within cut (batch ∷ batches) some =
    let rest = each_within cut batches some in
    let both = quotients_add (sum_by (cut_part cut) batch) (sum_by (cut_part cut) (all_of batches)) cut.divisor some in
    let whole = ap (λ (n : ℕ). n / cut.divisor) (sum_by-append (cut_part cut) batch (all_of batches)) in
    omega (arith, rest, both, whole)

-- an order with a part is one of the cut
first_part : (first part order : ℕ) (orders parts : List ℕ) → first ≢ order → part_beside (first ∷ orders) (part ∷ parts) order ≡ part_beside orders parts order
first_part first part order orders parts other = grind (arith, nat_tests)

pub has_part : (orders parts : List ℕ) (order : ℕ) → 0 < part_beside orders parts order → Contains orders order
has_part [] parts order some = absurd (omega (arith, some))
has_part (first ∷ orders) [] order some = absurd (omega (arith, some))
has_part (first ∷ orders) (part ∷ parts) order some =
    ⊎_elim
    (λ (e : first ≡ order). subst (λ (o : ℕ). Contains (first ∷ orders) o) e (contains_first first orders))
    (λ (ne : first ≢ order). contains_later first order orders (has_part orders parts order (omega (arith, some, first_part first part order orders parts ne))))
    (cases_eq first order)

-- a list without the orders of a batch: what is left weighs no more than the rest, and has all others
record LeavesBatch (f : ℕ → ℕ) (batch ys : List ℕ) : Type 0 where
  rest : List ℕ
  sums : sum_by f batch + sum_by f rest ≤ sum_by f ys
  others : (y : ℕ) → Contains ys y → (Contains batch y → ⊥) → Contains rest y

weightless : (f : ℕ → ℕ) (x : ℕ) (xs ys : List ℕ) → f x ≡ 0 → LeavesBatch f xs ys → LeavesBatch f (x ∷ xs) ys
weightless f x xs ys none out = record {
  rest = out.rest;
  sums = omega (arith, none, sum_by-cons f x xs, out.sums);
  others = λ y has not. out.others y has (λ later. not (contains_later x y xs later));
}

weighing : (f : ℕ → ℕ) (x : ℕ) (xs ys : List ℕ) (one : LeavesOut f ys x) → LeavesBatch f xs one.rest → LeavesBatch f (x ∷ xs) ys
weighing f x xs ys one out = record {
  rest = out.rest;
  sums = omega (arith, one.sums, sum_by-cons f x xs, out.sums);
  others = λ y has not. out.others y
      (one.others y has (λ (e : y ≡ x). not (subst (λ (k : ℕ). Contains (x ∷ xs) k) (sym e) (contains_first x xs))))
      (λ later. not (contains_later x y xs later));
}

leave_batch : (f : ℕ → ℕ) (batch ys : List ℕ) → IsStrictlyIncreasing batch → ((x : ℕ) → Contains batch x → 0 < f x → Contains ys x) → LeavesBatch f batch ys
leave_batch f [] ys up all = record { rest = ys; sums = omega arith; others = λ y has not. has }
leave_batch f (x ∷ xs) ys up all =
    ⊎_elim
    (λ (none : f x ≡ 0). weightless f x xs ys none (leave_batch f xs ys (tail_ascends x xs up) (λ y has. all y (contains_later x y xs has))))
    (λ (some : f x ≢ 0).
    let one = leave_out f ys x (all x (contains_first x xs) (omega (arith, some))) in
    weighing f x xs ys one (leave_batch f xs one.rest (tail_ascends x xs up) (λ y has heavy.
    one.others y (all y (contains_later x y xs has) heavy) (λ (e : y ≡ x). let above = head_below x xs up y has in omega (arith, e, above)))))
    (cases_eq (f x) 0)

-- batches without an order in common weigh no more than a list that has all their orders that weigh anything
pub apart_weigh : (f : ℕ → ℕ) (batches : List (List ℕ)) (ys : List ℕ) → ((place : ℕ) → place < length batches → IsStrictlyIncreasing (batch_at batches place))
    → ((order left right : ℕ) → left < length batches → right < length batches → Contains (batch_at batches left) order
    → Contains (batch_at batches right) order → left ≡ right)
    → ((place order : ℕ) → place < length batches → Contains (batch_at batches place) order → 0 < f order → Contains ys order)
    → sum_by f (all_of batches) ≤ sum_by f ys
apart_weigh f [] ys up once all = omega arith
apart_weigh f (batch ∷ batches) ys up once all =
    let out = leave_batch f batch ys (up zero (omega arith)) (λ x has heavy. all zero x (omega arith) has heavy) in
    let rest = apart_weigh f batches out.rest (λ place low. up (suc place) (omega (arith, low)))
    (λ order left right l r has also. let same = once order (suc left) (suc right) (omega (arith, l)) (omega (arith, r)) has also in omega (arith, same))
    (λ place order low has heavy. out.others order (all (suc place) order (omega (arith, low)) has heavy)
    (λ first. let same = once order zero (suc place) (omega arith) (omega (arith, low)) first has in omega (arith, same))) in
    omega (arith, sum_by-append f batch (all_of batches), out.sums, rest)

-- the batches of a batching together meet a cut no more often than all its orders would
pub batchings_meet_no_more : BatchingsMeetCutsNoMore
batchings_meet_no_more = λ wave capacity batches orders cut is valid.
    let each = each_within cut batches (omega (arith, valid.low)) in
    let weigh = apart_weigh (cut_part cut) batches cut.orders (λ place low. (is.each place low).ascending) is.once
    (λ place order low has heavy. has_part cut.orders cut.parts order heavy) in
    let whole = quotient_grows (sum_by (cut_part cut) (all_of batches)) (sum_by (cut_part cut) cut.orders) cut.divisor weigh in
    omega (arith, each, whole)
