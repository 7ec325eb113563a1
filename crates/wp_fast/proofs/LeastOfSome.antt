-- The least of numbers with some of a few properties.
use Rattle.std.proofs.Common.{◌≡◌, ℕ, ◌*◌, Option, Some, None, arith, refl, inl, inr, ◌⊎◌, sym, ◌∙◌}
use Rattle.std.proofs.lemmas.Option.{none-some, same_Some}
use Rattle.wp_graph.specs.declared.ways.AisleWays.{AisleWays}
use Rattle.wp_classes.specs.declared.class.Class.{Class}
use Rattle.wp_classes.specs.declared.class.Class.TheVariants.{UU1, E01, ZE1, EE1, EE2, Z00, Z01}
use Rattle.wp_classes.specs.declared.class.Way.{Way}
use Rattle.wp_classes.specs.declared.class.Way.TheVariants.{Pass, Back, Front, Gap, Double, Skip}
use Rattle.wp_classes.specs.declared.class.Cross.{Cross}
use Rattle.wp_classes.specs.declared.class.Cross.TheVariants.{C00, C11, C20, C02, C22}
use Rattle.wp_classes.specs.Choices.{TakesCross, TakesWay}
use Rattle.wp_classes.specs.Least.{lesser}
use Rattle.wp_classes.specs.Onward.{IsLeastOf}
use Rattle.wp_classes.specs.Tables.{class_after_cross, class_after_way, copies, way_length}
use Rattle.wp_classes.proofs.Leasts.{least_lesser, least_like}

-- the least number with some of seven properties, one for each class
pub least_of_classes : (P : Class → ℕ → Type 0) (a b c d e f g : Option ℕ) → IsLeastOf (P UU1) a → IsLeastOf (P E01) b → IsLeastOf (P ZE1) c
    → IsLeastOf (P EE1) d → IsLeastOf (P EE2) e → IsLeastOf (P Z00) f → IsLeastOf (P Z01) g →
    IsLeastOf (λ t. (class : Class) × P class t) (lesser a (lesser b (lesser c (lesser d (lesser e (lesser f g))))))
least_of_classes P a b c d e f g ha hb hc hd he hf hg =
    least_like _ (λ t. (class : Class) × P class t) _ to (λ t h. back t h.0 h.1)
    (least_lesser _ _ _ _ ha (least_lesser _ _ _ _ hb (least_lesser _ _ _ _ hc (least_lesser _ _ _ _ hd (least_lesser _ _ _ _ he
    (least_lesser _ _ _ _ hf hg))))))
  where
    Any : ℕ → Type 0
    Any t = P UU1 t ⊎ (P E01 t ⊎ (P ZE1 t ⊎ (P EE1 t ⊎ (P EE2 t ⊎ (P Z00 t ⊎ P Z01 t)))))

    to : (t : ℕ) → P UU1 t ⊎ (P E01 t ⊎ (P ZE1 t ⊎ (P EE1 t ⊎ (P EE2 t ⊎ (P Z00 t ⊎ P Z01 t))))) → (class : Class) × P class t
    to t (inl h) = (UU1, h)
    to t (inr (inl h)) = (E01, h)
    to t (inr (inr (inl h))) = (ZE1, h)
    to t (inr (inr (inr (inl h)))) = (EE1, h)
    to t (inr (inr (inr (inr (inl h))))) = (EE2, h)
    to t (inr (inr (inr (inr (inr (inl h)))))) = (Z00, h)
    to t (inr (inr (inr (inr (inr (inr h)))))) = (Z01, h)

    back : (t : ℕ) (class : Class) → P class t → P UU1 t ⊎ (P E01 t ⊎ (P ZE1 t ⊎ (P EE1 t ⊎ (P EE2 t ⊎ (P Z00 t ⊎ P Z01 t)))))
    back t UU1 h = inl h
    back t E01 h = inr (inl h)
    back t ZE1 h = inr (inr (inl h))
    back t EE1 h = inr (inr (inr (inl h)))
    back t EE2 h = inr (inr (inr (inr (inl h))))
    back t Z00 h = inr (inr (inr (inr (inr (inl h)))))
    back t Z01 h = inr (inr (inr (inr (inr (inr h)))))

-- the least number with some of six properties, one for each way
pub least_of_ways : (P : Way → ℕ → Type 0) (a b c d e f : Option ℕ) → IsLeastOf (P Pass) a → IsLeastOf (P Back) b → IsLeastOf (P Front) c
    → IsLeastOf (P Gap) d → IsLeastOf (P Double) e → IsLeastOf (P Skip) f →
    IsLeastOf (λ t. (way : Way) × P way t) (lesser a (lesser b (lesser c (lesser d (lesser e f)))))
least_of_ways P a b c d e f ha hb hc hd he hf =
    least_like _ (λ t. (way : Way) × P way t) _ to (λ t h. back t h.0 h.1)
    (least_lesser _ _ _ _ ha (least_lesser _ _ _ _ hb (least_lesser _ _ _ _ hc (least_lesser _ _ _ _ hd (least_lesser _ _ _ _ he hf)))))
  where
    to : (t : ℕ) → P Pass t ⊎ (P Back t ⊎ (P Front t ⊎ (P Gap t ⊎ (P Double t ⊎ P Skip t)))) → (way : Way) × P way t
    to t (inl h) = (Pass, h)
    to t (inr (inl h)) = (Back, h)
    to t (inr (inr (inl h))) = (Front, h)
    to t (inr (inr (inr (inl h)))) = (Gap, h)
    to t (inr (inr (inr (inr (inl h))))) = (Double, h)
    to t (inr (inr (inr (inr (inr h))))) = (Skip, h)

    back : (t : ℕ) (way : Way) → P way t → P Pass t ⊎ (P Back t ⊎ (P Front t ⊎ (P Gap t ⊎ (P Double t ⊎ P Skip t))))
    back t Pass h = inl h
    back t Back h = inr (inl h)
    back t Front h = inr (inr (inl h))
    back t Gap h = inr (inr (inr (inl h)))
    back t Double h = inr (inr (inr (inr (inl h))))
    back t Skip h = inr (inr (inr (inr (inr h))))

-- the least number with some of five properties, one for each crossing
pub least_of_crosses : (P : Cross → ℕ → Type 0) (a b c d e : Option ℕ) → IsLeastOf (P C00) a → IsLeastOf (P C11) b → IsLeastOf (P C20) c
    → IsLeastOf (P C02) d → IsLeastOf (P C22) e → IsLeastOf (λ t. (cross : Cross) × P cross t) (lesser a (lesser b (lesser c (lesser d e))))
least_of_crosses P a b c d e ha hb hc hd he =
    least_like _ (λ t. (cross : Cross) × P cross t) _ to (λ t h. back t h.0 h.1)
    (least_lesser _ _ _ _ ha (least_lesser _ _ _ _ hb (least_lesser _ _ _ _ hc (least_lesser _ _ _ _ hd he))))
  where
    to : (t : ℕ) → P C00 t ⊎ (P C11 t ⊎ (P C20 t ⊎ (P C02 t ⊎ P C22 t))) → (cross : Cross) × P cross t
    to t (inl h) = (C00, h)
    to t (inr (inl h)) = (C11, h)
    to t (inr (inr (inl h))) = (C20, h)
    to t (inr (inr (inr (inl h)))) = (C02, h)
    to t (inr (inr (inr (inr h)))) = (C22, h)

    back : (t : ℕ) (cross : Cross) → P cross t → P C00 t ⊎ (P C11 t ⊎ (P C20 t ⊎ (P C02 t ⊎ P C22 t)))
    back t C00 h = inl h
    back t C11 h = inr (inl h)
    back t C20 h = inr (inr (inl h))
    back t C02 h = inr (inr (inr (inl h)))
    back t C22 h = inr (inr (inr (inr h)))

-- the least length of a way that leads there is its length, where it applies
pub least_of_way : (ways : AisleWays) (way : Way) (before after : Class) → class_after_way before way ≡ Some after
    → IsLeastOf (TakesWay ways way before after) (way_length ways way)
least_of_way ways way before after allowed = go (way_length ways way) refl
  where
    go : (length : Option ℕ) → way_length ways way ≡ length → IsLeastOf (TakesWay ways way before after) length
    go None none = λ t h. none-some _ (sym none ∙ h.applies)
    go (Some m) applies = (record { allowed = allowed; applies = applies }, λ t h. let same = same_Some m t (sym applies ∙ h.applies) in omega arith)

-- the least length of a crossing that leads there is its length
pub least_of_cross : (spacing : ℕ) (cross : Cross) (before after : Class) → class_after_cross before cross ≡ Some after
    → IsLeastOf (TakesCross spacing cross before after) (Some (copies cross * spacing))
least_of_cross spacing cross before after allowed = (record { allowed = allowed; length_is = refl }, λ t h. omega (arith, h.length_is))
