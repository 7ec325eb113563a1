-- The least sums over the class between.
use Rattle.std.proofs.Common.{◌≡◌, ℕ, ◌+◌, Option, Some, None, arith, refl, subst, sym}
use Rattle.std.proofs.lemmas.Option.{none-some, same_Some}
use Rattle.wp_classes.specs.declared.class.Class.{Class}
use Rattle.wp_classes.specs.declared.class.Class.TheVariants.{UU1, E01, ZE1, EE1, EE2, Z00, Z01}
use Rattle.wp_classes.specs.Least.{sum_of}
use Rattle.wp_classes.specs.Onward.{IsLeastOf}
use Rattle.wp_fast.specs.declared.summary.Summary.{Summary}
use Rattle.wp_fast.specs.Passages.{Over, Tells, Then}
use Rattle.wp_fast.specs.Summaries.{least_by, length_between, length_by}
use Rattle.wp_fast.proofs.LeastOfSome.{least_of_classes}

-- the sum of two lengths is the only one of their sums
least_sum_of : (a b : Option ℕ) → IsLeastOf (λ t. (near : ℕ) × (far : ℕ) × (a ≡ Some near) × (b ≡ Some far) × (t ≡ near + far)) (sum_of a b)
least_sum_of None b = λ t h. none-some _ h.2
least_sum_of (Some m) None = λ t h. none-some _ h.3
least_sum_of (Some m) (Some n) = (
  (m, n, refl, refl, refl),
  λ t h. let near = same_Some m h.0 h.2 in let far = same_Some n h.1 h.3 in omega (arith, near, far, h.4),
)

-- the least length by some class between is the least sum
pub least_sums : (first next : Summary) (before after : Class) (length : Option ℕ) → length ≡ least_by first next before after
    → IsLeastOf (Then (Tells first) (Tells next) before after) length
least_sums first next before after length by =
    subst (λ (o : Option ℕ). IsLeastOf (Then (Tells first) (Tells next) before after) o) (sym by)
    (least_of_classes (λ between t. Over (Tells first) (Tells next) between before after t) _ _ _ _ _ _ _
    (at UU1) (at E01) (at ZE1) (at EE1) (at EE2) (at Z00) (at Z01))
  where
    at : (between : Class) → IsLeastOf (Over (Tells first) (Tells next) between before after) (length_by first next before after between)
    at between = least_sum_of (length_between first before between) (length_between next between after)
