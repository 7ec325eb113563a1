-- Ascending lists of orders.
use Rattle.std.proofs.Common.{◌≡◌, ℕ, List, [], ◌∷◌, arith, refl, ap, sym, ◌∙◌, ⊎_elim, Contains}
use Rattle.std.specs.List.Sorted.{IsStrictlyIncreasing}
use Rattle.wp_pairs.proofs.Classes.{head_below, tail_ascends}
use Rattle.wp_pairs.proofs.Members.{contains_cases, contains_first, contains_later, contains_none}

-- ascending lists of the same numbers are one list
pub one_list : (xs ys : List ℕ) → IsStrictlyIncreasing xs → IsStrictlyIncreasing ys → ((x : ℕ) → Contains xs x → Contains ys x)
    → ((x : ℕ) → Contains ys x → Contains xs x) → xs ≡ ys
one_list [] [] up down there back = refl
one_list [] (y ∷ ys) up down there back = absurd (contains_none y (back y (contains_first y ys)))
one_list (x ∷ xs) [] up down there back = absurd (contains_none x (there x (contains_first x xs)))
one_list (x ∷ xs) (y ∷ ys) up down there back =
    let e : x ≡ y = ⊎_elim (λ (e : y ≡ x). sym e) (λ (later : Contains ys x). ⊎_elim (λ (e : x ≡ y). e)
    (λ (after : Contains xs y). absurd (omega (arith, head_below y ys down x later, head_below x xs up y after)))
    (contains_cases x y xs (back y (contains_first y ys)))) (contains_cases y x ys (there x (contains_first x xs))) in
    let rest = one_list xs ys (tail_ascends x xs up) (tail_ascends y ys down)
    (λ z has. ⊎_elim (λ (same : y ≡ z). absurd (omega (arith, head_below x xs up z has, e, same))) (λ later. later)
    (contains_cases y z ys (there z (contains_later x z xs has))))
    (λ z has. ⊎_elim (λ (same : x ≡ z). absurd (omega (arith, head_below y ys down z has, e, same))) (λ later. later)
    (contains_cases x z xs (back z (contains_later y z ys has)))) in
    ap (λ (k : ℕ). k ∷ xs) e ∙ ap (λ (ks : List ℕ). y ∷ ks) rest
