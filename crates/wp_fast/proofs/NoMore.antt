-- Numbers with one property that are at most so great as numbers with another.
use Rattle.std.proofs.Common.{◌≡◌, ℕ, ◌≤◌, Option, Some, None, arith, refl, subst}
use Rattle.wp_classes.specs.Onward.{IsLeastOf}

-- some number with a property is at most so great
pub record NoMore (P : ℕ → Type 0) (most : ℕ) : Type 0 where
  pub total : ℕ
  pub is : P total
  pub least : total ≤ most

-- the number itself
pub itself : (P : ℕ → Type 0) (t : ℕ) → P t → NoMore P t
itself P t h = record { total = t; is = h; least = omega arith }

-- the numbers with two properties have the same least one, where each number with the one is at least some with the other
pub least_between : (P Q : ℕ → Type 0) (least : Option ℕ) → ((t : ℕ) → P t → NoMore Q t) → ((t : ℕ) → Q t → NoMore P t) → IsLeastOf P least → IsLeastOf Q least
least_between P Q None there back is = λ t h. is (back t h).total (back t h).is
least_between P Q (Some m) there back is =
    let low = there m is.0 in
    let again = back low.total low.is in
    let up = is.1 again.total again.is in
    let same : low.total ≡ m = omega (arith, low.least, again.least, up) in
    (subst Q same low.is, λ t h. let from = back t h in let least = is.1 from.total from.is in omega (arith, least, from.least))

-- a least number has the property
pub least_has : (P : ℕ → Type 0) (least : Option ℕ) (m : ℕ) → IsLeastOf P least → least ≡ Some m → P m
least_has P least m is told = (subst (λ (o : Option ℕ). IsLeastOf P o) told is).0

-- where some number has the property, there is a least one
pub least_found : (P : ℕ → Type 0) (least : Option ℕ) (t : ℕ) → IsLeastOf P least → P t → NoMore (λ m. least ≡ Some m) t
least_found P None t is h = absurd (is t h)
least_found P (Some m) t is h = record { total = m; is = refl; least = is.1 t h }
