-- The least length to a class in which a tour may end.
use Rattle.std.proofs.Common.{◌≡◌, ℕ, Option, Some, None, IsTrue, arith, refl, inl, inr, ◌⊎◌}
use Rattle.std.proofs.lemmas.Bool.{false≢true}
use Rattle.std.proofs.lemmas.Option.{none-some, same_Some}
use Rattle.wp_classes.specs.declared.class.Class.{Class}
use Rattle.wp_classes.specs.declared.class.Class.TheVariants.{UU1, E01, ZE1, EE1, EE2, Z00, Z01}
use Rattle.wp_classes.specs.Least.{lesser}
use Rattle.wp_classes.specs.Onward.{IsLeastOf}
use Rattle.wp_classes.specs.Tables.{is_whole}
use Rattle.wp_classes.proofs.Leasts.{least_lesser, least_like}
use Rattle.wp_fast.specs.declared.summary.Summary.{Summary}
use Rattle.wp_fast.specs.Passages.{Tells, ToTheEnd}
use Rattle.wp_fast.specs.Summaries.{length_between}

-- a length is the least of itself
pub least_told : (length : Option ℕ) → IsLeastOf (λ t. length ≡ Some t) length
least_told None = λ t h. none-some _ h
least_told (Some m) = (refl, λ t h. let same = same_Some m t h in omega arith)

-- the least length to the end is the least to one of the four classes in which a tour may end
pub least_to_the_end : (summary : Summary) → IsLeastOf (ToTheEnd summary) (lesser (length_between summary Z00 E01)
    (lesser (length_between summary Z00 ZE1) (lesser (length_between summary Z00 EE1) (length_between summary Z00 Z01))))
least_to_the_end summary =
    least_like _ (ToTheEnd summary) _ to (λ t h. back t h.0 h.1 h.2)
    (least_lesser _ _ _ _ (at E01) (least_lesser _ _ _ _ (at ZE1) (least_lesser _ _ _ _ (at EE1) (at Z01))))
  where
    at : (after : Class) → IsLeastOf (λ t. Tells summary Z00 after t) (length_between summary Z00 after)
    at after = least_told (length_between summary Z00 after)

    to : (t : ℕ) → Tells summary Z00 E01 t ⊎ (Tells summary Z00 ZE1 t ⊎ (Tells summary Z00 EE1 t ⊎ Tells summary Z00 Z01 t)) → ToTheEnd summary t
    to t (inl h) = (E01, refl, h)
    to t (inr (inl h)) = (ZE1, refl, h)
    to t (inr (inr (inl h))) = (EE1, refl, h)
    to t (inr (inr (inr h))) = (Z01, refl, h)

    back : (t : ℕ) (after : Class) → IsTrue (is_whole after) → Tells summary Z00 after t →
        Tells summary Z00 E01 t ⊎ (Tells summary Z00 ZE1 t ⊎ (Tells summary Z00 EE1 t ⊎ Tells summary Z00 Z01 t))
    back t UU1 whole h = absurd (false≢true whole)
    back t E01 whole h = inl h
    back t ZE1 whole h = inr (inl h)
    back t EE1 whole h = inr (inr (inl h))
    back t EE2 whole h = absurd (false≢true whole)
    back t Z00 whole h = absurd (false≢true whole)
    back t Z01 whole h = inr (inr (inr h))
