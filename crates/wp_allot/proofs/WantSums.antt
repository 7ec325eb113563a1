-- Sums of what is wanted.
use Rattle.std.proofs.Common.{◌≡◌, ◌≢◌, refl, ℕ, suc, ◌<◌, ◌≤◌, ◌==◌, ◌&&◌, Bool, true, false, inl, inr, List, [], ◌∷◌, length, slice_get, Some}
use Rattle.std.proofs.Common.{if◌then◌else◌, arith, ne_eqb}
use Rattle.std.proofs.lemmas.Bool.{cases_eq, cond-false, cond_both}
use Rattle.std.proofs.lemmas.List.Sums.{sum_by-cons, sum_by-le-sum_by}
use Rattle.wp_allot.specs.Wants.{units_for, units_of, wanted_for, wanted_of}
use Rattle.wp_allot.specs.declared.want.Want.{Want}

-- a want has no more units of an article than units
pub units_of-le : (article : ℕ) (want : Want) → units_of article want ≤ want.quantity
units_of-le article want = cond_both (want.article == article) want.quantity 0 (λ n. n ≤ want.quantity) (λ e. omega arith) (λ e. omega arith)

-- a want of the article stands at a place
pub record IsWantOf (wants : List Want) (article : ℕ) : Type 0 where
  pub place : ℕ
  pub want : Want
  pub within : place < length wants
  pub there : slice_get wants place ≡ Some want
  pub same : want.article ≡ article

one_later : (w : Want) (wants : List Want) (article : ℕ) → IsWantOf wants article → IsWantOf (w ∷ wants) article
one_later w wants article is = record { place = suc is.place; want = is.want; within = omega (arith, is.within); there = is.there; same = is.same }

-- an article of which units are wanted is a want's
pub wanted-some : (wants : List Want) (article : ℕ) → wanted_of wants article ≢ 0 → IsWantOf wants article
wanted-some [] article some = absurd (some refl)
wanted-some (w ∷ wants) article some = elim (cases_eq w.article article) [
  | inl same ↦ record { place = 0; want = w; within = omega arith; there = refl; same = same }
  | inr other ↦
      let none = cond-false (w.article == article) w.quantity 0 (ne_eqb w.article article other) in
      one_later w wants article (wanted-some wants article (λ e. some (omega (arith, sum_by-cons (units_of article) w wants, none, e))))
]

-- what is wanted for an order is within what is wanted
pub wanted_for-le : (wants : List Want) (article order : ℕ) → wanted_for wants article order ≤ wanted_of wants article
wanted_for-le wants article order = sum_by-le-sum_by (units_for article order) (units_of article) wants
    (λ want. pick (want.article == article) (want.order == order) want.quantity)
  where
    pick : (a b : Bool) (q : ℕ) → (if a && b then q else 0) ≤ (if a then q else 0)
    pick true true q = omega arith
    pick true false q = omega arith
    pick false b q = omega arith
