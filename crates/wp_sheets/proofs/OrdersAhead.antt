-- The orders of a batch, divided at an order: those before it, and those from it on.
use Rattle.std.proofs.Common.{◌≡◌, ◌∙◌, refl, sym, ap, subst, ℕ, ◌+◌, ◌<◌, ◌≤◌, List, [], ◌∷◌, ◌++◌, Contains, All, arith, append_assoc, ⊎_elim}
use Rattle.std.proofs.lemmas.Bool.{cases_eq}
use Rattle.std.proofs.lemmas.List.{append-nil}
use Rattle.std.proofs.lemmas.List.Elements.{All-contains, Contains-append_cases, Contains-append_right, Contains-push_cases}
use Rattle.std.specs.List.Sorted.{IsStrictlyIncreasing}
use Rattle.wp_pairs.proofs.Classes.{head_below, tail_ascends}
use Rattle.wp_pairs.proofs.Members.{contains_cases, contains_first, contains_none}

-- the orders before an order, and the others
pub record AreDividedAt (batch : List ℕ) (order : ℕ) (front back : List ℕ) : Type 0 where
  pub whole : batch ≡ front ++ back
  pub before : (p : ℕ) → Contains front p → p < order
  pub after : (p : ℕ) → Contains back p → order ≤ p

-- none is before 0
pub divided_at_first : (batch : List ℕ) → AreDividedAt batch 0 [] batch
divided_at_first batch = record {
  whole = refl;
  before = λ p has. absurd (contains_none p has);
  after = λ p has. omega arith;
}

-- the end of an ascending list ascends
end_ascends : (front back : List ℕ) → IsStrictlyIncreasing (front ++ back) → IsStrictlyIncreasing back
end_ascends [] back up = up
end_ascends (x ∷ front) back up = end_ascends front back (tail_ascends x (front ++ back) up)

-- an order that an ascending list has, and before which it has none, is its first
first_of : (order : ℕ) (back : List ℕ) → IsStrictlyIncreasing back → ((p : ℕ) → Contains back p → order ≤ p) → Contains back order
    → (rest : List ℕ) × (back ≡ order ∷ rest) × ((p : ℕ) → Contains rest p → order + 1 ≤ p)
first_of order [] up after has = absurd (contains_none order has)
first_of order (x ∷ rest) up after has =
    let first : x ≡ order = ⊎_elim (λ (e : x ≡ order). e)
    (λ later. absurd (omega (arith, head_below x rest up order later, after x (contains_first x rest)))) (contains_cases x order rest has) in
    (rest, ap (λ (y : ℕ). y ∷ rest) first, λ p there. omega (arith, head_below x rest up p there, first))

-- an order of the batch comes next
pub divided_after : (batch : List ℕ) (order : ℕ) (front back : List ℕ) → IsStrictlyIncreasing batch → Contains batch order
    → AreDividedAt batch order front back → (rest : List ℕ) × AreDividedAt batch (order + 1) (front ++ order ∷ []) rest
divided_after batch order front back up has are =
    let back_up = end_ascends front back (subst IsStrictlyIncreasing are.whole up) in
    let ahead : Contains back order = ⊎_elim (λ early. absurd (omega (arith, are.before order early))) (λ (late : Contains back order). late)
    (Contains-append_cases front back order (subst (λ (xs : List ℕ). Contains xs order) are.whole has)) in
    let next = first_of order back back_up are.after ahead in (
      next.0,
      record {
        whole = are.whole ∙ (ap (λ (xs : List ℕ). front ++ xs) next.1 ∙ sym (append_assoc front (order ∷ []) next.0));
        before = λ p there. ⊎_elim (λ old. omega (arith, are.before p old)) (λ (e : order ≡ p). omega arith) (Contains-push_cases front order p there);
        after = next.2;
      },
    )

-- an order that isn't in the batch doesn't
pub divided_past : (batch : List ℕ) (order : ℕ) (front back : List ℕ) → (Contains batch order → ⊥) → AreDividedAt batch order front back
    → AreDividedAt batch (order + 1) front back
divided_past batch order front back none are = record {
  whole = are.whole;
  before = λ p there. omega (arith, are.before p there);
  after = λ p there. ⊎_elim
      (λ (e : p ≡ order). absurd (none (subst (λ (xs : List ℕ). Contains xs order) (sym are.whole)
      (Contains-append_right front back order (subst (Contains back) e there)))))
      (λ ne. omega (arith, are.after p there, ne)) (cases_eq p order);
}

-- where all orders are before an order, there are no others
pub divided_at_end : (batch : List ℕ) (order : ℕ) (front back : List ℕ) → All (λ p. p < order) batch → AreDividedAt batch order front back → front ≡ batch
divided_at_end batch order front [] all are = sym (are.whole ∙ append-nil front)
divided_at_end batch order front (x ∷ back) all are =
    let there = subst (λ (xs : List ℕ). Contains xs x) (sym are.whole) (Contains-append_right front (x ∷ back) x (contains_first x back)) in
    absurd (omega (arith, All-contains (λ (p : ℕ). p < order) batch x all there, are.after x (contains_first x back)))
