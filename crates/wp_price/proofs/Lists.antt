-- Lists of orders: which comes before which, ascending lists of the same orders, and sums of bounded numbers.
use Rattle.std.proofs.Common.{◌≡◌, ℕ, ◌<◌, ◌≤◌, ltb, true, false, List, [], ◌∷◌, length, arith, refl, ap, sym, ◌∙◌, inl, inr, ◌⊎◌, ◌↔◌, ◌≢◌}
use Rattle.std.proofs.Common.{⊎_elim, Contains}
use Rattle.std.specs.Prelude.{Some, None, slice_get}
use Rattle.std.specs.List.Sorted.{IsStrictlyIncreasing}
use Rattle.std.proofs.lemmas.Bool.{cases_eq, cases_lt, cond-false, cond-true, le-ltb, lt-ltb}
use Rattle.wp_pairs.proofs.Classes.{head_below, tail_ascends}
use Rattle.wp_pairs.proofs.Members.{contains_cases, contains_later}
use Rattle.wp_visit.proofs.Lists.{one_list}
use Rattle.wp_price.specs.Slacks.{comes_before}

-- of two numbers one is lower, or they are equal
three_ways : (x y : ℕ) → (x < y) ⊎ ((y < x) ⊎ (x ≡ y))
three_ways x y = ⊎_elim (λ (low : x < y). inl low)
    (λ (high : y ≤ x). ⊎_elim (λ (e : x ≡ y). inr (inr e)) (λ (ne : x ≢ y). inr (inl (omega (arith, high, ne)))) (cases_eq x y)) (cases_lt x y)

before_low : (x y : ℕ) (xs ys : List ℕ) → x < y → comes_before (x ∷ xs) (y ∷ ys) ≡ true
before_low x y xs ys low = cond-true (ltb x y) _ _ (lt-ltb x y low)

before_high : (x y : ℕ) (xs ys : List ℕ) → y < x → comes_before (x ∷ xs) (y ∷ ys) ≡ false
before_high x y xs ys high = cond-false (ltb x y) _ _ (le-ltb x y (omega (arith, high))) ∙ cond-true (ltb y x) _ _ (lt-ltb y x high)

before_same : (x y : ℕ) (xs ys : List ℕ) → x ≡ y → comes_before (x ∷ xs) (y ∷ ys) ≡ comes_before xs ys
before_same x y xs ys e =
    cond-false (ltb x y) _ _ (le-ltb x y (omega (arith, e))) ∙ cond-false (ltb y x) _ _ (le-ltb y x (omega (arith, e)))

-- no list comes before itself
pub never_before_itself : (xs : List ℕ) → comes_before xs xs ≡ false
never_before_itself [] = refl
never_before_itself (x ∷ xs) = before_same x x xs xs refl ∙ never_before_itself xs

-- of two lists only one comes before the other
pub before_one_way : (xs ys : List ℕ) → comes_before xs ys ≡ true → comes_before ys xs ≡ false
before_one_way [] [] e = refl
before_one_way [] (y ∷ ys) e = refl
before_one_way (x ∷ xs) [] e = absurd (cc e)
before_one_way (x ∷ xs) (y ∷ ys) e =
    ⊎_elim (λ (low : x < y). before_high y x ys xs low)
    (λ more. ⊎_elim (λ (high : y < x). absurd (cc (sym (before_high x y xs ys high) ∙ e)))
    (λ (same : x ≡ y). before_same y x ys xs (sym same) ∙ before_one_way xs ys (sym (before_same x y xs ys same) ∙ e)) more)
    (three_ways x y)

-- where no list comes before the one before it, the last doesn't come before the first
pub not_before_on : (xs ys zs : List ℕ) → comes_before ys xs ≡ false → comes_before zs ys ≡ false → comes_before zs xs ≡ false
not_before_on xs [] [] one other = one
not_before_on xs (y ∷ ys) [] one other = absurd (cc other)
not_before_on [] ys (z ∷ zs) one other = refl
not_before_on (x ∷ xs) [] (z ∷ zs) one other = absurd (cc one)
not_before_on (x ∷ xs) (y ∷ ys) (z ∷ zs) one other =
    ⊎_elim (λ (low : y < x). absurd (cc (sym (before_low y x ys xs low) ∙ one)))
    (λ more. ⊎_elim (λ (low : z < y). absurd (cc (sym (before_low z y zs ys low) ∙ other)))
    (λ rest. ⊎_elim
    (λ (high : x < y). before_high z x zs xs (⊎_elim (λ (above : y < z). omega (arith, high, above)) (λ (e : z ≡ y). omega (arith, high, e)) rest))
    (λ (same : y ≡ x). ⊎_elim (λ (above : y < z). before_high z x zs xs (omega (arith, above, same)))
    (λ (e : z ≡ y). before_same z x zs xs (e ∙ same) ∙ not_before_on xs ys zs (sym (before_same y x ys xs same) ∙ one) (sym (before_same z y zs ys e) ∙ other))
    rest) more) (three_ways z y)) (three_ways y x)

-- an ascending list without its first is what follows
rest_alone : (x : ℕ) (xs after : List ℕ) → IsStrictlyIncreasing (x ∷ xs) → IsStrictlyIncreasing after
    → ((p : ℕ) → Contains after p ↔ (Contains (x ∷ xs) p × (p ≢ x))) → after ≡ xs
rest_alone x xs after up down is = one_list after xs down (tail_ascends x xs up)
    (λ p has. let h = (is p).0 has in ⊎_elim (λ (e : x ≡ p). absurd (h.1 (sym e))) (λ later. later) (contains_cases x p xs h.0))
    (λ p has. (is p).1 (contains_later x p xs has, λ e. let above = head_below x xs up p has in omega (arith, above, e)))

-- lists whose first orders are lower one way come before one another that way
pub before_by_first : (xs ys : List ℕ) (x y : ℕ) → slice_get xs 0 ≡ Some x → slice_get ys 0 ≡ Some y → x < y → comes_before xs ys ≡ true
before_by_first [] ys x y one other low = absurd (cc one)
before_by_first (x' ∷ xs) [] x y one other low = absurd (cc other)
before_by_first (x' ∷ xs) (y' ∷ ys) x y one other low =
    let e : x' ≡ x = cc one in let f : y' ≡ y = cc other in before_low x' y' xs ys (omega (arith, e, f, low))

-- and don't the other way
pub after_by_first : (xs ys : List ℕ) (x y : ℕ) → slice_get xs 0 ≡ Some x → slice_get ys 0 ≡ Some y → y < x → comes_before xs ys ≡ false
after_by_first xs ys x y one other high = before_one_way ys xs (before_by_first ys xs y x other one high)

-- lists with the same first order are compared without it
pub before_by_rest : (xs ys xs_after ys_after : List ℕ) (x y : ℕ) → slice_get xs 0 ≡ Some x → slice_get ys 0 ≡ Some y → x ≡ y
    → IsStrictlyIncreasing xs → IsStrictlyIncreasing ys → IsStrictlyIncreasing xs_after → IsStrictlyIncreasing ys_after
    → ((p : ℕ) → Contains xs_after p ↔ (Contains xs p × (p ≢ x))) → ((p : ℕ) → Contains ys_after p ↔ (Contains ys p × (p ≢ y)))
    → comes_before xs_after ys_after ≡ comes_before xs ys
before_by_rest [] ys xs_after ys_after x y one other same up down up_after down_after is is_other = absurd (cc one)
before_by_rest (x' ∷ xs) [] xs_after ys_after x y one other same up down up_after down_after is is_other = absurd (cc other)
before_by_rest (x' ∷ xs) (y' ∷ ys) xs_after ys_after x y one other same up down up_after down_after is is_other =
    let e : x' ≡ x = cc one in
    let f : y' ≡ y = cc other in
    let left = rest_alone x' xs xs_after up up_after (λ p. (λ h. (((is p).0 h).0, λ g. ((is p).0 h).1 (g ∙ e)), λ h. (is p).1 (h.0, λ g. h.1 (g ∙ sym e)))) in
    let right = rest_alone y' ys ys_after down down_after
    (λ p. (λ h. (((is_other p).0 h).0, λ g. ((is_other p).0 h).1 (g ∙ f)), λ h. (is_other p).1 (h.0, λ g. h.1 (g ∙ sym f)))) in
    rw (left, right) (sym (before_same x' y' xs ys (e ∙ (same ∙ sym f))))

-- a list that has no first comes before all others
pub before_of_none : (xs ys : List ℕ) (y : ℕ) → slice_get xs 0 ≡ None → slice_get ys 0 ≡ Some y → comes_before xs ys ≡ true
before_of_none [] [] y one other = absurd (cc other)
before_of_none [] (y' ∷ ys) y one other = refl
before_of_none (x ∷ xs) ys y one other = absurd (cc one)

-- nothing comes before a list that has no first
pub none_before : (xs ys : List ℕ) → slice_get ys 0 ≡ None → comes_before xs ys ≡ false
none_before [] [] none = refl
none_before (x ∷ xs) [] none = refl
none_before xs (y ∷ ys) none = absurd (cc none)

-- without its first order a list is shorter
pub shorter : (xs after : List ℕ) (x : ℕ) → IsStrictlyIncreasing xs → IsStrictlyIncreasing after → slice_get xs 0 ≡ Some x
    → ((p : ℕ) → Contains after p ↔ (Contains xs p × (p ≢ x))) → length after < length xs
shorter [] after x up down first is = absurd (cc first)
shorter (x' ∷ xs) after x up down first is =
    let e : x' ≡ x = cc first in
    let rest = rest_alone x' xs after up down (λ p. (λ h. (((is p).0 h).0, λ g. ((is p).0 h).1 (g ∙ e)), λ h. (is p).1 (h.0, λ g. h.1 (g ∙ sym e)))) in
    omega (arith, ap (λ (ys : List ℕ). length ys) rest)
