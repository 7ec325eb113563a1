-- Ascending lists: what is left of one without another, and lists of the same numbers.
use Rattle.std.proofs.Common.{◌≡◌, ◌≢◌, ℕ, zero, suc, ◌+◌, ◌<◌, ◌≤◌, List, [], ◌∷◌, length, get_or, arith, refl, ap, sym, ◌∙◌, subst, inl, inr, ◌⊎◌, ◌↔◌}
use Rattle.std.proofs.Common.{⊎_elim, Contains}
use Rattle.std.specs.Prelude.{sum_by}
use Rattle.std.specs.List.Sorted.{IsStrictlyIncreasing}
use Rattle.std.proofs.lemmas.Bool.{cases_eq}
use Rattle.std.proofs.lemmas.List.Sums.{sum_by-cons}
use Rattle.std.proofs.lemmas.List.{get_or_default}
use Rattle.wp_pairs.proofs.Classes.{head_below, tail_ascends}
use Rattle.wp_pairs.proofs.KeptPairs.{in_or_not}
use Rattle.wp_pairs.proofs.Members.{ascending_cons, contains_cases, contains_first, contains_later, contains_none}

-- an ascending list is split into another, all of which it has, and the rest
pub record IsSplit (f : ℕ → ℕ) (part whole : List ℕ) : Type 0 where
  pub rest : List ℕ
  pub ascending : IsStrictlyIncreasing rest
  pub sums : sum_by f whole ≡ sum_by f part + sum_by f rest
  pub counts : length whole ≡ length part + length rest
  pub of_whole : (x : ℕ) → Contains rest x → Contains whole x
  pub not_of_part : (x : ℕ) → Contains rest x → Contains part x → ⊥
  pub covers : (x : ℕ) → Contains whole x → Contains part x ⊎ Contains rest x

-- both begin with the same number
split_same : (f : ℕ → ℕ) (x y : ℕ) (xs ys : List ℕ) → x ≡ y → IsStrictlyIncreasing (x ∷ xs) → IsStrictlyIncreasing (y ∷ ys) → IsSplit f xs ys
    → IsSplit f (x ∷ xs) (y ∷ ys)
split_same f x y xs ys e up down s = record {
  rest = s.rest;
  ascending = s.ascending;
  sums = omega (arith, sum_by-cons f x xs, sum_by-cons f y ys, s.sums, ap f e);
  counts = omega (arith, s.counts);
  of_whole = λ z has. contains_later y z ys (s.of_whole z has);
  not_of_part = λ z has part. ⊎_elim
      (λ (same : x ≡ z). let above = head_below y ys down z (s.of_whole z has) in omega (arith, e, same, above))
      (λ later. s.not_of_part z has later) (contains_cases x z xs part);
  covers = λ z has. ⊎_elim
      (λ (same : y ≡ z). inl (subst (λ (k : ℕ). Contains (x ∷ xs) k) (e ∙ same) (contains_first x xs)))
      (λ later. ⊎_elim (λ part. inl (contains_later x z xs part)) (λ rest. inr rest) (s.covers z later)) (contains_cases y z ys has);
}

-- the first of the whole is not of the part
split_other : (f : ℕ → ℕ) (y : ℕ) (xs ys : List ℕ) → (Contains xs y → ⊥) → IsStrictlyIncreasing (y ∷ ys) → IsSplit f xs ys → IsSplit f xs (y ∷ ys)
split_other f y xs ys none down s = record {
  rest = y ∷ s.rest;
  ascending = ascending_cons y s.rest (λ z has. head_below y ys down z (s.of_whole z has)) s.ascending;
  sums = omega (arith, sum_by-cons f y ys, sum_by-cons f y s.rest, s.sums);
  counts = omega (arith, s.counts);
  of_whole = λ z has. ⊎_elim (λ (same : y ≡ z). subst (λ (k : ℕ). Contains (y ∷ ys) k) same (contains_first y ys))
      (λ later. contains_later y z ys (s.of_whole z later)) (contains_cases y z s.rest has);
  not_of_part = λ z has part. ⊎_elim (λ (same : y ≡ z). none (subst (λ (k : ℕ). Contains xs k) (sym same) part))
      (λ later. s.not_of_part z later part) (contains_cases y z s.rest has);
  covers = λ z has. ⊎_elim (λ (same : y ≡ z). inr (subst (λ (k : ℕ). Contains (y ∷ s.rest) k) same (contains_first y s.rest)))
      (λ later. ⊎_elim (λ part. inl part) (λ rest. inr (contains_later y z s.rest rest)) (s.covers z later)) (contains_cases y z ys has);
}

-- where each number of an ascending list is in another, the other is split
pub split_off : (f : ℕ → ℕ) (part whole : List ℕ) → IsStrictlyIncreasing part → IsStrictlyIncreasing whole
    → ((x : ℕ) → Contains part x → Contains whole x) → IsSplit f part whole
split_off f [] whole up down all = record {
  rest = whole;
  ascending = down;
  sums = omega arith;
  counts = omega arith;
  of_whole = λ x has. has;
  not_of_part = λ x has part. contains_none x part;
  covers = λ x has. inr has;
}
split_off f (x ∷ xs) [] up down all = absurd (contains_none x (all x (contains_first x xs)))
split_off f (x ∷ xs) (y ∷ ys) up down all =
    ⊎_elim
    (λ (e : x ≡ y). split_same f x y xs ys e up down (split_off f xs ys (tail_ascends x xs up) (tail_ascends y ys down)
    (λ z has. ⊎_elim (λ (same : y ≡ z). let above = head_below x xs up z has in absurd (omega (arith, e, same, above))) (λ later. later)
    (contains_cases y z ys (all z (contains_later x z xs has))))))
    (λ (ne : x ≢ y).
    let first : y < x = ⊎_elim (λ (e : y ≡ x). absurd (ne (sym e))) (λ later. head_below y ys down x later) (contains_cases y x ys (all x
    (contains_first x xs))) in
    let least = λ (z : ℕ) (has : Contains (x ∷ xs) z). ⊎_elim (λ (e : x ≡ z). let l : y < z = omega (arith, first, e) in l)
    (λ later. let above = head_below x xs up z later in let l : y < z = omega (arith, first, above) in l) (contains_cases x z xs has) in
    split_other f y (x ∷ xs) ys (λ has. let l = least y has in omega (arith, l)) down (split_off f (x ∷ xs) ys up (tail_ascends y ys down)
    (λ z has. ⊎_elim (λ (same : y ≡ z). let l = least z has in absurd (omega (arith, same, l))) (λ later. later) (contains_cases y z ys (all z has)))))
    (cases_eq x y)

-- a list that has nothing is empty
pub nothing_left : (xs : List ℕ) → ((x : ℕ) → Contains xs x → ⊥) → xs ≡ []
nothing_left [] none = refl
nothing_left (x ∷ xs) none = absurd (none x (contains_first x xs))

-- what has no number of its own that the part hasn't has the same sum
pub same_sum : (f : ℕ → ℕ) (part whole : List ℕ) → IsStrictlyIncreasing part → IsStrictlyIncreasing whole
    → ((x : ℕ) → Contains part x → Contains whole x) → ((x : ℕ) → Contains whole x → Contains part x) → sum_by f whole ≡ sum_by f part
same_sum f part whole up down all back =
    let s = split_off f part whole up down all in
    let none = nothing_left s.rest (λ x has. s.not_of_part x has (back x (s.of_whole x has))) in
    omega (arith, s.sums, ap (λ (xs : List ℕ). sum_by f xs) none)

-- a single number ascends
pub single_ascends : (x : ℕ) → IsStrictlyIncreasing (x ∷ [])
single_ascends x = ascending_cons x [] (λ y has. absurd (contains_none y has)) (λ k within. absurd (omega arith))

-- a number in a list is the only one of the list of it alone
pub only_one : (x y : ℕ) → Contains (x ∷ []) y → x ≡ y
only_one x y has = ⊎_elim (λ e. e) (λ none. absurd (contains_none y none)) (contains_cases x y [] has)

-- a list without one of its numbers
pub one_off : (f : ℕ → ℕ) (whole : List ℕ) (x : ℕ) → IsStrictlyIncreasing whole → Contains whole x → IsSplit f (x ∷ []) whole
one_off f whole x down has = split_off f (x ∷ []) whole (single_ascends x) down (λ y one. subst (λ (k : ℕ). Contains whole k) (only_one x y one) has)

-- an ascending list with one number alone has it once
pub single_list : (xs : List ℕ) (x : ℕ) → IsStrictlyIncreasing xs → Contains xs x → ((y : ℕ) → Contains xs y → y ≡ x) → xs ≡ x ∷ []
single_list [] x up has all = absurd (contains_none x has)
single_list (y ∷ []) x up has all = ap (λ (k : ℕ). k ∷ []) (all y (contains_first y []))
single_list (y ∷ z ∷ zs) x up has all =
    let one = all y (contains_first y (z ∷ zs)) in
    let other = all z (contains_later y z (z ∷ zs) (contains_first z zs)) in
    absurd (omega (arith, one, other, head_below y (z ∷ zs) up z (contains_first z zs)))

-- a list with one more number
pub record IsOneMore (f : ℕ → ℕ) (xs ys : List ℕ) (x : ℕ) : Type 0 where
  pub sums : sum_by f ys ≡ sum_by f xs + f x
  pub counts : length ys ≡ length xs + 1

-- with a new number the sum is larger by its value, and there is one more
pub one_more : (f : ℕ → ℕ) (xs ys : List ℕ) (x : ℕ) → IsStrictlyIncreasing xs → IsStrictlyIncreasing ys
    → ((y : ℕ) → Contains ys y ↔ (Contains xs y ⊎ (y ≡ x))) → (Contains xs x → ⊥) → IsOneMore f xs ys x
one_more f xs ys x up down is new =
    let s = split_off f xs ys up down (λ y has. (is y).1 (inl has)) in
    let has = ⊎_elim (λ old. absurd (new old)) (λ (r : Contains s.rest x). r) (s.covers x ((is x).1 (inr refl))) in
    let alone = single_list s.rest x s.ascending has
    (λ y there. ⊎_elim (λ old. absurd (s.not_of_part y there old)) (λ (e : y ≡ x). e) ((is y).0 (s.of_whole y there))) in record {
      sums = omega (arith, s.sums, ap (λ (zs : List ℕ). sum_by f zs) alone);
      counts = omega (arith, s.counts, ap (λ (zs : List ℕ). length zs) alone);
    }

-- all of a list are in another, or one of it isn't
pub all_in_or_out : (xs ys : List ℕ) → ((x : ℕ) → Contains xs x → Contains ys x) ⊎ ((x : ℕ) × Contains xs x × (Contains ys x → ⊥))
all_in_or_out [] ys = inl (λ x has. absurd (contains_none x has))
all_in_or_out (x ∷ xs) ys =
    ⊎_elim
    (λ here. ⊎_elim (λ rest. inl (λ y has. ⊎_elim (λ (e : x ≡ y). subst (λ (k : ℕ). Contains ys k) e here) (λ later. rest y later) (contains_cases x y xs has)))
    (λ out. inr (out.0, contains_later x out.0 xs out.1, out.2)) (all_in_or_out xs ys))
    (λ none. inr (x, contains_first x xs, none)) (in_or_not ys x)

-- the first of an ascending list is its least
rising : (xs : List ℕ) → IsStrictlyIncreasing xs → (k : ℕ) → k < length xs → get_or xs 0 0 ≤ get_or xs k 0
rising xs up zero within = omega arith
rising xs up (suc k) within =
    let e : k + 1 ≡ suc k = omega arith in
    let next = up k (omega arith) in
    let there : get_or xs k 0 < get_or xs (suc k) 0 = subst (λ (i : ℕ). get_or xs k 0 < get_or xs i 0) e next in
    omega (arith, rising xs up k (omega arith))

-- the first of an ascending list is at most each of it
pub first_least : (xs : List ℕ) (x : ℕ) → IsStrictlyIncreasing xs → Contains xs x → get_or xs 0 0 ≤ x
first_least xs x up has =
    let is : get_or xs has.0 0 ≡ x = get_or_default xs has.0 0 x has.1 ∙ has.2 in omega (arith, rising xs up has.0 has.1, is)
