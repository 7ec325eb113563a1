-- Sums over the orders of a list that are below an end.
use Rattle.std.proofs.Common.{◌≡◌, ◌≢◌, ℕ, ◌+◌, ◌<◌, ◌≤◌, ltb, cond}
use Rattle.std.proofs.Common.{List, [], ◌∷◌, arith, refl, ap, subst}
use Rattle.std.proofs.Common.{⊎_elim, Contains}
use Rattle.std.specs.Prelude.{sum_by}
use Rattle.std.proofs.lemmas.List.Sums.{sum_by-cons}
use Rattle.std.specs.List.Sorted.{IsStrictlyIncreasing}
use Rattle.std.proofs.lemmas.Bool.{cases_eq, cases_lt, cond-false, cond-true, le-ltb, lt-ltb}
use Rattle.wp_pairs.proofs.Classes.{head_below, tail_ascends}
use Rattle.wp_pairs.proofs.Members.{contains_cases, contains_first, contains_later, contains_none}

-- what an order adds to the sum over those below an end
part_under : (ℕ → ℕ) → ℕ → ℕ → ℕ
part_under f end x = cond (ltb x end) (f x) 0

part_in : (f : ℕ → ℕ) (end x : ℕ) → x < end → part_under f end x ≡ f x
unfolding part_under
part_in f end x low = cond-true (ltb x end) (f x) 0 (lt-ltb x end low)

part_out : (f : ℕ → ℕ) (end x : ℕ) → end ≤ x → part_under f end x ≡ 0
unfolding part_under
part_out f end x high = cond-false (ltb x end) (f x) 0 (le-ltb x end high)

-- the sum over the orders of a list that are below an end
pub sum_under : (ℕ → ℕ) → ℕ → List ℕ → ℕ
sum_under f end [] = 0
sum_under f end (x ∷ xs) = part_under f end x + sum_under f end xs

-- none is below 0
pub under_none : (f : ℕ → ℕ) (xs : List ℕ) → sum_under f 0 xs ≡ 0
unfolding sum_under
under_none f [] = refl
under_none f (x ∷ xs) = omega (arith, part_out f 0 x (omega arith), under_none f xs)

-- where all are below the end, it is the whole sum
pub under_all : (f : ℕ → ℕ) (end : ℕ) (xs : List ℕ) → ((x : ℕ) → Contains xs x → x < end) → sum_under f end xs ≡ sum_by f xs
unfolding sum_under
under_all f end [] all = refl
under_all f end (x ∷ xs) all = omega (
  arith,
  sum_by-cons f x xs,
  part_in f end x (all x (contains_first x xs)),
  under_all f end xs (λ y has. all y (contains_later x y xs has)),
)

-- so it is where those that aren't below the end add nothing
pub under_rest : (f : ℕ → ℕ) (end : ℕ) (xs : List ℕ) → ((x : ℕ) → end ≤ x → f x ≡ 0) → sum_under f end xs ≡ sum_by f xs
unfolding sum_under
under_rest f end [] none = refl
under_rest f end (x ∷ xs) none =
    let rest = under_rest f end xs none in
    ⊎_elim (λ (low : x < end). omega (arith, sum_by-cons f x xs, part_in f end x low, rest))
    (λ (high : end ≤ x). omega (arith, sum_by-cons f x xs, part_out f end x high, none x high, rest)) (cases_lt x end)

-- an order that isn't in the list adds nothing
pub under_without : (f : ℕ → ℕ) (end : ℕ) (xs : List ℕ) → (Contains xs end → ⊥) → sum_under f (end + 1) xs ≡ sum_under f end xs
unfolding sum_under
under_without f end [] none = refl
under_without f end (x ∷ xs) none =
    let rest = under_without f end xs (λ has. none (contains_later x end xs has)) in
    ⊎_elim (λ (low : x < end). omega (arith, rest, part_in f end x low, part_in f (end + 1) x (omega (arith, low))))
    (λ (high : end ≤ x). ⊎_elim (λ (e : x ≡ end). absurd (none (subst (λ (k : ℕ). Contains (x ∷ xs) k) e (contains_first x xs))))
    (λ (ne : x ≢ end). omega (arith, rest, part_out f end x high, part_out f (end + 1) x (omega (arith, high, ne)))) (cases_eq x end))
    (cases_lt x end)

-- an order of an ascending list adds its value
pub under_with : (f : ℕ → ℕ) (end : ℕ) (xs : List ℕ) → IsStrictlyIncreasing xs → Contains xs end → sum_under f (end + 1) xs ≡ sum_under f end xs + f end
unfolding sum_under
under_with f end [] up has = absurd (contains_none end has)
under_with f end (x ∷ xs) up has =
    ⊎_elim
    (λ (e : x ≡ end).
    let rest = under_without f end xs (λ later. let above = head_below x xs up end later in omega (arith, e, above)) in
    omega (arith, rest, part_out f end x (omega (arith, e)), part_in f (end + 1) x (omega (arith, e)), ap f e))
    (λ later.
    let above = head_below x xs up end later in
    let rest = under_with f end xs (tail_ascends x xs up) later in
    omega (arith, rest, part_in f end x above, part_in f (end + 1) x (omega (arith, above))))
    (contains_cases x end xs has)
