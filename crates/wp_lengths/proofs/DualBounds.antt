-- What duals come to at most.
use Rattle.std.proofs.Common.{ℕ, ◌+◌, ◌*◌, ◌<◌, ◌≤◌, List, [], ◌∷◌, length, arith, Contains, All}
use Rattle.std.specs.Prelude.{slice_index, sum, sum_by}
use Rattle.std.specs.List.Sorted.{IsStrictlyIncreasing}
use Rattle.std.proofs.lemmas.List.Elements.{All-contains}
use Rattle.std.proofs.lemmas.List.Sums.{sum_by-cons, sum_by-le}
use Rattle.wp_pairs.proofs.Classes.{head_below, tail_ascends}
use Rattle.wp_pairs.proofs.Members.{contains_first, contains_later}
use Rattle.wp_lengths.specs.Duals.{AreDuals, duals_of, greatest_dual}

-- an ascending list of numbers from a first one on and below an end is no longer than there are such numbers
pub ascending_few : (xs : List ℕ) (from end : ℕ) → IsStrictlyIncreasing xs → from ≤ end → ((x : ℕ) → Contains xs x → from ≤ x)
    → ((x : ℕ) → Contains xs x → x < end) → length xs + from ≤ end
ascending_few [] from end up some low high = omega (arith, some)
ascending_few (x ∷ xs) from end up some low high =
    let first = high x (contains_first x xs) in
    let rest = ascending_few xs (x + 1) end (tail_ascends x xs up) (omega (arith, first))
    (λ y has. let above = head_below x xs up y has in omega (arith, above)) (λ y has. high y (contains_later x y xs has)) in
    omega (arith, rest, low x (contains_first x xs))

-- so many values of which none is above the most
pub bounded_sum : (f : ℕ → ℕ) (most : ℕ) (xs : List ℕ) → ((x : ℕ) → Contains xs x → f x ≤ most) → sum_by f xs ≤ most * length xs
bounded_sum f most [] low = omega arith
bounded_sum f most (x ∷ xs) low =
    omega (arith, sum_by-cons f x xs, low x (contains_first x xs), bounded_sum f most xs (λ y has. low y (contains_later x y xs has)))

-- what orders have in duals, each at most the greatest
pub bounded_duals : (duals batch : List ℕ) → All (λ order. order < length duals) batch → All (λ dual. dual ≤ greatest_dual) duals
    → duals_of duals batch ≤ greatest_dual * length batch
bounded_duals duals batch known low = bounded_sum (slice_index duals) greatest_dual batch
    (λ x has. low x 0 (All-contains (λ (o : ℕ). o < length duals) batch x known has))

-- the duals of up to 64 orders come to no more than 64 times the greatest dual
pub sum_small : (duals : List ℕ) → AreDuals duals → sum duals ≤ 64000000000000
sum_small duals are = let high = sum_by-le (λ (x : ℕ). x) greatest_dual duals are.within in omega (arith, high, are.few)
