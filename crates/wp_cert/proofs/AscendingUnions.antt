-- The numbers of two ascending lists in one.
use Rattle.std.proofs.Common.{◌≡◌, ◌≢◌, ℕ, ◌+◌, ◌<◌, ◌≤◌, ◌↔◌, ◌⊎◌, List, [], ◌∷◌, length, arith, ◌∙◌, subst, inl, inr, ⊎_elim, Contains}
use Rattle.std.specs.List.Sorted.{IsStrictlyIncreasing}
use Rattle.std.proofs.lemmas.Bool.{cases_eq, cases_lt}
use Rattle.wp_pairs.proofs.Classes.{head_below, tail_ascends}
use Rattle.wp_pairs.proofs.Members.{ascending_cons, contains_cases, contains_first, contains_later, contains_none}
use Rattle.wp_lengths.proofs.Ascending.{only_one, single_ascends}

-- an ascending list of what is in either of two lists, no longer than both
pub record IsUnion (xs ys union : List ℕ) : Type 0 where
  pub ascending : IsStrictlyIncreasing union
  pub both : (p : ℕ) → Contains union p ↔ (Contains xs p ⊎ Contains ys p)
  pub count : length union ≤ length xs + length ys

-- one number more
pub one_in : (x : ℕ) (ys : List ℕ) → IsStrictlyIncreasing ys → (union : List ℕ) × IsUnion (x ∷ []) ys union
one_in x [] up = (
  x ∷ [],
  record { ascending = single_ascends x; both = λ p. (λ has. inl has, ⊎_elim (λ l. l) (λ none. absurd (contains_none p none))); count = omega arith },
)
one_in x (y ∷ ys) up = ⊎_elim
    (λ (lt : x < y). (
      x ∷ y ∷ ys,
      record {
        ascending = ascending_cons x (y ∷ ys) (λ p has. ⊎_elim (λ (e : y ≡ p). let l : x < p = omega (arith, lt, e) in l)
            (λ later. let l = head_below y ys up p later in omega (arith, lt, l)) (contains_cases y p ys has)) up;
        both = λ p. (
          λ has. ⊎_elim (λ (e : x ≡ p). inl (subst (λ (k : ℕ). Contains (x ∷ []) k) e (contains_first x []))) (λ later. inr later)
              (contains_cases x p (y ∷ ys) has),
          ⊎_elim (λ l. subst (λ (k : ℕ). Contains (x ∷ y ∷ ys) k) (only_one x p l) (contains_first x (y ∷ ys))) (λ r. contains_later x p (y ∷ ys) r),
        );
        count = omega arith;
      },
    ))
    (λ (ge : y ≤ x). ⊎_elim
    (λ (e : y ≡ x). (
      y ∷ ys,
      record {
        ascending = up;
        both = λ p. (
          λ has. inr has,
          ⊎_elim (λ l. subst (λ (k : ℕ). Contains (y ∷ ys) k) (e ∙ only_one x p l) (contains_first y ys)) (λ r. r),
        );
        count = omega arith;
      },
    ))
    (λ (ne : y ≢ x). let rest = one_in x ys (tail_ascends y ys up) in (
      y ∷ rest.0,
      record {
        ascending = ascending_cons y rest.0 (λ p has. ⊎_elim (λ l. let e = only_one x p l in omega (arith, ge, ne, e)) (λ r. head_below y ys up p r)
            ((rest.1.both p).0 has)) rest.1.ascending;
        both = λ p. (
          λ has. ⊎_elim (λ (e : y ≡ p). inr (subst (λ (k : ℕ). Contains (y ∷ ys) k) e (contains_first y ys)))
              (λ later. ⊎_elim (λ l. inl l) (λ r. inr (contains_later y p ys r)) ((rest.1.both p).0 later)) (contains_cases y p rest.0 has),
          ⊎_elim (λ l. contains_later y p rest.0 ((rest.1.both p).1 (inl l)))
              (λ r. ⊎_elim (λ (e : y ≡ p). subst (λ (k : ℕ). Contains (y ∷ rest.0) k) e (contains_first y rest.0))
              (λ later. contains_later y p rest.0 ((rest.1.both p).1 (inr later))) (contains_cases y p ys r)),
        );
        count = omega (arith, rest.1.count);
      },
    ))
    (cases_eq y x))
    (cases_lt x y)

-- two ascending lists have a union
pub union_of : (xs ys : List ℕ) → IsStrictlyIncreasing xs → IsStrictlyIncreasing ys → (union : List ℕ) × IsUnion xs ys union
union_of [] ys up down = (
  ys,
  record { ascending = down; both = λ p. (λ has. inr has, ⊎_elim (λ none. absurd (contains_none p none)) (λ r. r)); count = omega arith },
)
union_of (x ∷ xs) ys up down =
    let rest = union_of xs ys (tail_ascends x xs up) down in
    let whole = one_in x rest.0 rest.1.ascending in (
      whole.0,
      record {
        ascending = whole.1.ascending;
        both = λ p. (
          λ has. ⊎_elim (λ l. inl (subst (λ (k : ℕ). Contains (x ∷ xs) k) (only_one x p l) (contains_first x xs)))
              (λ r. ⊎_elim (λ l. inl (contains_later x p xs l)) (λ y. inr y) ((rest.1.both p).0 r)) ((whole.1.both p).0 has),
          ⊎_elim
              (λ l. ⊎_elim (λ (e : x ≡ p). (whole.1.both p).1 (inl (subst (λ (k : ℕ). Contains (x ∷ []) k) e (contains_first x []))))
              (λ later. (whole.1.both p).1 (inr ((rest.1.both p).1 (inl later)))) (contains_cases x p xs l))
              (λ r. (whole.1.both p).1 (inr ((rest.1.both p).1 (inr r)))),
        );
        count = omega (arith, whole.1.count, rest.1.count);
      },
    )
