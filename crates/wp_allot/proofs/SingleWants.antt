-- Wants of which no order has two of one article, and that they can be gathered.
use Rattle.std.proofs.Common.{◌≡◌, ◌∙◌, refl, sym, ap, ℕ, zero, suc, ◌<◌, ◌≤◌, ◌==◌, ◌&&◌, inl, inr, List, [], ◌∷◌, Some, slice_get}
use Rattle.std.proofs.Common.{if◌then◌else◌, arith, eq-eqb, ne_eqb}
use Rattle.std.proofs.lemmas.Bool.{and_from, and_left, and_parts, and_right, cases_Bool, cases_eq, cond-false, cond-true, eqb-true}
use Rattle.std.proofs.lemmas.List.Sorted.{All-permutation, sum_by-IsPermutation}
use Rattle.std.proofs.lemmas.List.Sums.{get_or-le-sum_by, sum_by-cons}
use Rattle.std.proofs.lemmas.Option.{get_or_from_slice_get, same_Some, slice_get_within}
use Rattle.std.specs.List.{sum_by}
use Rattle.std.specs.List.Sorted.{IsPermutation}
use Rattle.wp_book.proofs.SortedPairs.{IsSortedByPair, no_later}
use Rattle.wp_allot.specs.Wants.{AreGathered, AreRegular}
use Rattle.wp_allot.specs.declared.want.Want.{Want}

-- one where a want is of an article and for an order
abbrev one_for : ℕ → ℕ → Want → ℕ
one_for article order want = if (want.article == article) && (want.order == order) then 1 else 0

one_own : (article order : ℕ) (want : Want) → want.article ≡ article → want.order ≡ order → one_for article order want ≡ 1
one_own article order want a o =
    cond-true {A = ℕ} ((want.article == article) && (want.order == order)) 1 0 (and_from _ _ (eq-eqb want.article article a) (eq-eqb want.order order o))

one_other : (article order : ℕ) (want : Want) → (want.article ≡ article → want.order ≡ order → ⊥) → one_for article order want ≡ 0
one_other article order want never = elim (cases_eq want.article article) [
  | inl a ↦ cond-false {A = ℕ} ((want.article == article) && (want.order == order)) 1 0 (and_right _ _ (ne_eqb want.order order (λ o. never a o)))
  | inr other ↦ cond-false {A = ℕ} ((want.article == article) && (want.order == order)) 1 0 (and_left _ _ (ne_eqb want.article article other))
]

-- no want is of the article and for the order
none_for : (article order : ℕ) (wants : List Want)
    → ((k : ℕ) (w : Want) → slice_get wants k ≡ Some w → w.article ≡ article → w.order ≡ order → ⊥) → sum_by (one_for article order) wants ≡ 0
none_for article order [] never = refl
none_for article order (w ∷ wants) never =
    omega (
      arith,
      sum_by-cons (one_for article order) w wants,
      one_other article order w (never 0 w refl),
      none_for article order wants (λ k v there. never (suc k) v there),
    )

-- wants stand at one place alone for each order and article
abbrev AreOnce : List Want → Type 0
AreOnce wants = (i j : ℕ) (v w : Want) → slice_get wants i ≡ Some v → slice_get wants j ≡ Some w → v.order ≡ w.order → v.article ≡ w.article → i ≡ j

at_most_one : (article order : ℕ) (wants : List Want) → AreOnce wants → sum_by (one_for article order) wants ≤ 1
at_most_one article order [] once = omega arith
at_most_one article order (w ∷ wants) once = elim (cases_Bool ((w.article == article) && (w.order == order))) [
  | inl is ↦
      let parts = and_parts (w.article == article) (w.order == order) is in
      let none = none_for article order wants (λ k v there a o.
      absurd (omega (
        arith,
        once 0 (suc k) w v refl there (eqb-true w.order order parts.1 ∙ sym o) (eqb-true w.article article parts.0 ∙ sym a),
      ))) in
      omega (
        arith,
        sum_by-cons (one_for article order) w wants,
        none,
        cond-true {A = ℕ} ((w.article == article) && (w.order == order)) 1 0 is,
      )
  | inr isnt ↦
      omega (
        arith,
        sum_by-cons (one_for article order) w wants,
        cond-false {A = ℕ} ((w.article == article) && (w.order == order)) 1 0 isnt,
        at_most_one article order wants (λ i j v x at there o a. omega (arith, once (suc i) (suc j) v x at there o a)),
      )
]

-- an order that has two wants of an article has at least two
at_least_two : (wants : List Want) (i j : ℕ) (v w : Want) → i < j → slice_get wants i ≡ Some v → slice_get wants j ≡ Some w
    → v.article ≡ w.article → v.order ≡ w.order → 2 ≤ sum_by (one_for w.article w.order) wants
at_least_two [] i j v w before at there a o = absurd (omega (arith, slice_get_within [] i v at))
at_least_two (x ∷ wants) i zero v w before at there a o = absurd (omega arith)
at_least_two (x ∷ wants) zero (suc j) v w before at there a o =
    let one = one_for w.article w.order in
    let within = get_or-le-sum_by one wants j w (slice_get_within wants j w there) in
    let last = ap one (get_or_from_slice_get wants j w w there) in
    let first : one x ≡ 1 = ap one (same_Some x v at) ∙ one_own w.article w.order v a o in
    omega (arith, sum_by-cons one x wants, within, last, first, one_own w.article w.order w refl refl)
at_least_two (x ∷ wants) (suc i) (suc j) v w before at there a o =
    omega (arith, sum_by-cons (one_for w.article w.order) x wants, at_least_two wants i j v w (omega arith) at there a o)

-- regular wants that were sorted by their articles and their orders are gathered
pub are_gathered : (old new : List Want) → AreRegular old → IsPermutation old new
    → IsSortedByPair (λ (want : Want). want.article) (λ (want : Want). want.order) new → AreGathered new
are_gathered old new regular same sorted = record {
  articles = λ i j v w before at there.
      (no_later (λ (want : Want). want.article) (λ (want : Want). want.order) new sorted i j v w (omega (arith, before)) at there).first;
  turn = record {
    later = λ i j v w before at there a.
        let least = (no_later (λ (want : Want). want.article) (λ (want : Want). want.order) new sorted i j v w (omega (arith, before)) at there).second a in
        elim (cases_eq v.order w.order) [
          | inl o ↦ absurd (omega (
            arith,
            at_least_two new i j v w before at there a o,
            sum_by-IsPermutation (one_for w.article w.order) old new same,
            at_most_one w.article w.order old regular.once,
          ))
          | inr other ↦ omega (arith, least, other)
        ];
    some = All-permutation (λ (want : Want). 0 < want.quantity) old new same regular.some;
    small = omega (arith, sum_by-IsPermutation (λ (want : Want). want.quantity) old new same, regular.small);
  };
}
