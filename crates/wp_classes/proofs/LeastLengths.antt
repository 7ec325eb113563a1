-- The least lengths by one way and by one crossing.
use Rattle.std.proofs.Common.{◌≡◌, ℕ, suc, ◌+◌, ◌*◌, Bool, true, false, IsTrue, if◌then◌else◌, Option, Some, None, option_map, option_and_then, arith, refl}
use Rattle.std.proofs.Common.{inl, inr, ◌⊎◌, sym, ◌∙◌, subst}
use Rattle.std.proofs.lemmas.Bool.{both_ways}
use Rattle.std.proofs.lemmas.Option.{none-some, same_Some}
use Rattle.wp_graph.specs.declared.ways.AisleWays.{AisleWays}
use Rattle.wp_classes.specs.declared.class.Class.{Class}
use Rattle.wp_classes.specs.declared.class.Way.{Way}
use Rattle.wp_classes.specs.declared.class.Way.TheVariants.{Pass, Back, Front, Gap, Double, Skip}
use Rattle.wp_classes.specs.declared.class.Cross.{Cross}
use Rattle.wp_classes.specs.declared.class.Cross.TheVariants.{C00, C11, C20, C02, C22}
use Rattle.wp_classes.specs.declared.lengths.OnwardLengths.{OnwardLengths}
use Rattle.wp_classes.specs.Choices.{Block}
use Rattle.wp_classes.specs.Least.{by_cross, by_way, least_by_cross, least_by_way, length_at, sum_of}
use Rattle.wp_classes.specs.Onward.{Across, AreOnward, ByCross, ByWay, IsLeastOf, Onward, Through}
use Rattle.wp_classes.specs.Tables.{class_after_cross, class_after_way, copies, is_whole, way_length}
use Rattle.wp_classes.proofs.Leasts.{least_lesser, least_like, least_more}

-- the least length by one way
least_by : (onward : Class → ℕ → Type 0) (ways : AisleWays) (after : OnwardLengths) (class : Class) (way : Way) →
    ((next : Class) → IsLeastOf (onward next) (length_at after next)) → IsLeastOf (ByWay onward ways class way) (by_way ways after class way)
least_by onward ways after class way is = go (class_after_way class way) (way_length ways way) refl refl
  where
    at : (next : Class) (through : ℕ) → class_after_way class way ≡ Some next → way_length ways way ≡ Some through → (known : Option ℕ)
        → length_at after next ≡ known →
        IsLeastOf (ByWay onward ways class way) (sum_of (Some through) known)
    at next through allowed applies None e = λ t h.
        let same = same_Some _ _ (sym allowed ∙ h.3.allowed) in
        let none = subst (λ o. IsLeastOf (onward next) o) e (is next) in none h.2 (subst (λ c. onward c h.2) (sym same) h.4)
    at next through allowed applies (Some m) e =
        let some = subst (λ o. IsLeastOf (onward next) o) e (is next) in (
          (next, through, m, record { allowed = allowed; applies = applies }, some.0, refl),
          λ t h.
              let same = same_Some _ _ (sym allowed ∙ h.3.allowed) in
              let long = same_Some _ _ (sym applies ∙ h.3.applies) in
              let up = some.1 h.2 (subst (λ c. onward c h.2) (sym same) h.4) in omega (arith, up, long, h.5),
        )

    go : (next : Option Class) (through : Option ℕ) → class_after_way class way ≡ next → way_length ways way ≡ through →
        IsLeastOf (ByWay onward ways class way) (option_and_then (λ c. sum_of through (length_at after c)) next)
    go None through none applies = λ t h. none-some _ (sym none ∙ h.3.allowed)
    go (Some next) None allowed none = λ t h. none-some _ (sym none ∙ h.3.applies)
    go (Some next) (Some through) allowed applies = at next through allowed applies (length_at after next) refl

-- the least length by some way
pub least_ways : (onward : Class → ℕ → Type 0) (ways : AisleWays) (after : OnwardLengths) (class : Class) →
    ((next : Class) → IsLeastOf (onward next) (length_at after next)) → IsLeastOf (Through onward ways class) (least_by_way ways after class)
least_ways onward ways after class is =
    let by = λ (way : Way). least_by onward ways after class way is in
    least_like _ (Through onward ways class) _ to back
    (least_lesser _ _ _ _ (by Pass) (least_lesser _ _ _ _ (by Back)
    (least_lesser _ _ _ _ (by Front) (least_lesser _ _ _ _ (by Gap) (least_lesser _ _ _ _ (by Double) (by Skip))))))
  where
    By : Way → ℕ → Type 0
    By way t = ByWay onward ways class way t

    to : (t : ℕ) → ByWay onward ways class Pass t ⊎ (ByWay onward ways class Back t ⊎
        (ByWay onward ways class Front t ⊎ (ByWay onward ways class Gap t ⊎ (ByWay onward ways class Double t ⊎ ByWay onward ways class Skip t))))
        → Through onward ways class t
    to t (inl h) = (Pass, h)
    to t (inr (inl h)) = (Back, h)
    to t (inr (inr (inl h))) = (Front, h)
    to t (inr (inr (inr (inl h)))) = (Gap, h)
    to t (inr (inr (inr (inr (inl h))))) = (Double, h)
    to t (inr (inr (inr (inr (inr h))))) = (Skip, h)

    split : (t : ℕ) (way : Way) → ByWay onward ways class way t → ByWay onward ways class Pass t
        ⊎ (ByWay onward ways class Back t ⊎ (ByWay onward ways class Front t ⊎
        (ByWay onward ways class Gap t ⊎ (ByWay onward ways class Double t ⊎ ByWay onward ways class Skip t))))
    split t Pass h = inl h
    split t Back h = inr (inl h)
    split t Front h = inr (inr (inl h))
    split t Gap h = inr (inr (inr (inl h)))
    split t Double h = inr (inr (inr (inr (inl h))))
    split t Skip h = inr (inr (inr (inr (inr h))))

    back : (t : ℕ) → Through onward ways class t → ByWay onward ways class Pass t
        ⊎ (ByWay onward ways class Back t ⊎ (ByWay onward ways class Front t ⊎
        (ByWay onward ways class Gap t ⊎ (ByWay onward ways class Double t ⊎ ByWay onward ways class Skip t))))
    back t h = split t h.0 h.1

-- the least length by one crossing
least_over : (onward : Class → ℕ → Type 0) (spacing : ℕ) (after : OnwardLengths) (class : Class) (cross : Cross) →
    ((next : Class) → IsLeastOf (onward next) (length_at after next)) → IsLeastOf (ByCross onward spacing class cross) (by_cross spacing after class cross)
least_over onward spacing after class cross is = go (class_after_cross class cross) refl
  where
    go : (next : Option Class) → class_after_cross class cross ≡ next →
        IsLeastOf (ByCross onward spacing class cross) (option_and_then (λ c. option_map (λ rest. copies cross * spacing + rest) (length_at after c)) next)
    go None none = λ t h. none-some _ (sym none ∙ h.3.allowed)
    go (Some next) allowed =
        least_like _ (ByCross onward spacing class cross) _
        (λ t h. (next, copies cross * spacing, h.0, record { allowed = allowed; length_is = refl }, h.1, h.2))
        (λ t h. let same = same_Some _ _ (sym allowed ∙ h.3.allowed) in (h.2, subst (λ c. onward c h.2) (sym same) h.4, omega (arith, h.5, h.3.length_is)))
        (least_more (onward next) (copies cross * spacing) (length_at after next) (is next))

-- the least length by some crossing
pub least_crosses : (onward : Class → ℕ → Type 0) (spacing : ℕ) (after : OnwardLengths) (class : Class) →
    ((next : Class) → IsLeastOf (onward next) (length_at after next)) → IsLeastOf (Across onward spacing class) (least_by_cross spacing after class)
least_crosses onward spacing after class is =
    let by = λ (cross : Cross). least_over onward spacing after class cross is in
    least_like _ (Across onward spacing class) _ to back
    (least_lesser _ _ _ _ (by C00) (least_lesser _ _ _ _ (by C11) (least_lesser _ _ _ _ (by C20) (least_lesser _ _ _ _ (by C02) (by C22)))))
  where
    to : (t : ℕ) → ByCross onward spacing class C00 t ⊎ (ByCross onward spacing class C11 t ⊎
        (ByCross onward spacing class C20 t ⊎ (ByCross onward spacing class C02 t ⊎ ByCross onward spacing class C22 t))) → Across onward spacing class t
    to t (inl h) = (C00, h)
    to t (inr (inl h)) = (C11, h)
    to t (inr (inr (inl h))) = (C20, h)
    to t (inr (inr (inr (inl h)))) = (C02, h)
    to t (inr (inr (inr (inr h)))) = (C22, h)

    split : (t : ℕ) (cross : Cross) → ByCross onward spacing class cross t → ByCross onward spacing class C00 t
        ⊎ (ByCross onward spacing class C11 t ⊎ (ByCross onward spacing class C20 t ⊎
        (ByCross onward spacing class C02 t ⊎ ByCross onward spacing class C22 t)))
    split t C00 h = inl h
    split t C11 h = inr (inl h)
    split t C20 h = inr (inr (inl h))
    split t C02 h = inr (inr (inr (inl h)))
    split t C22 h = inr (inr (inr (inr h)))

    back : (t : ℕ) → Across onward spacing class t → ByCross onward spacing class C00 t
        ⊎ (ByCross onward spacing class C11 t ⊎ (ByCross onward spacing class C20 t ⊎
        (ByCross onward spacing class C02 t ⊎ ByCross onward spacing class C22 t)))
    back t h = split t h.0 h.1

-- the least lengths at the end
pub onward_at_end : (block : Block) (aisle : ℕ) (lengths : OnwardLengths)
    → ((class : Class) → length_at lengths class ≡ (if is_whole class then Some 0 else None))
    → AreOnward block 0 aisle lengths
onward_at_end block aisle lengths are = record {
  least = λ class. subst (λ o. IsLeastOf (λ t. Onward block 0 aisle class t) o) (sym (are class))
      (go class (is_whole class) refl);
}
  where
    go : (class : Class) (b : Bool) → is_whole class ≡ b → IsLeastOf (λ t. IsTrue (is_whole class) × (t ≡ 0)) (if b then Some 0 else None)
    go class true whole = ((whole, refl), λ t h. omega arith)
    go class false not_whole = λ t h. absurd (both_ways _ not_whole h.0)

-- the least lengths one aisle further left
pub onward_left : (block : Block) (left aisle : ℕ) (after through before : OnwardLengths) → AreOnward block left (suc aisle) after →
    ((class : Class) → length_at through class ≡ least_by_way (block.ways (suc aisle)) after class) →
    ((class : Class) → length_at before class ≡ least_by_cross (block.spacing aisle) through class) → AreOnward block (suc left) aisle before
onward_left block left aisle after through before are by_ways by_crosses = record {
  least = λ class.
      let on : Class → ℕ → Type 0 = λ next rest. Onward block left (suc aisle) next rest in
      let between : (c : Class) → IsLeastOf (λ rest. Through on (block.ways (suc aisle)) c rest) (length_at through c) =
      λ c. subst (λ o. IsLeastOf (λ rest. Through on (block.ways (suc aisle)) c rest) o) (sym (by_ways c))
      (least_ways on (block.ways (suc aisle)) after c are.least) in
      subst (λ o. IsLeastOf (λ t. Onward block (suc left) aisle class t) o) (sym (by_crosses class))
      (least_crosses (λ c rest. Through on (block.ways (suc aisle)) c rest) (block.spacing aisle) through class between);
}
