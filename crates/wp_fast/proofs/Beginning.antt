-- A tour needs nothing in the aisles before the first needed one.
use Rattle.std.proofs.Common.{◌≡◌, ℕ, zero, suc, ◌+◌, ◌*◌, ◌<◌, ◌≤◌, ◌⊎◌, Some, None, arith, inl, inr, refl, sym, ◌∙◌, subst, ⊎_elim}
use Rattle.std.proofs.lemmas.Bool.{cases_eq}
use Rattle.std.proofs.lemmas.Option.{none-some}
use Rattle.wp_graph.specs.declared.ways.AisleWays.{AisleWays}
use Rattle.wp_classes.specs.declared.class.Class.{Class}
use Rattle.wp_classes.specs.declared.class.Class.TheVariants.{UU1, E01, ZE1, EE1, EE2, Z00, Z01}
use Rattle.wp_classes.specs.declared.class.Way.{Way}
use Rattle.wp_classes.specs.declared.class.Way.TheVariants.{Pass, Back, Front, Gap, Double, Skip}
use Rattle.wp_classes.specs.declared.class.Cross.{Cross}
use Rattle.wp_classes.specs.declared.class.Cross.TheVariants.{C00, C11, C20, C02, C22}
use Rattle.wp_classes.specs.Choices.{Block}
use Rattle.wp_classes.specs.Onward.{Onward, Through}
use Rattle.wp_classes.specs.Tables.{class_after_way}
use Rattle.wp_fast.proofs.Alone.{IsEven, plain_way, through_done}
use Rattle.wp_fast.proofs.Crossing.{IsPlain}
use Rattle.wp_fast.proofs.NoMore.{NoMore, itself}
use Rattle.wp_fast.proofs.Spare.{Continues, one_for_two, through_continues}
use Rattle.wp_fast.proofs.Walks.{skip_over}
use Rattle.wp_fast.proofs.Steps.{By, Crossed, OnFrom, across_crossed, by_from, crossed_from, through_by, ThroughAndOn}

-- an aisle from this one on is needed
abbrev pub SomeNeeded : Block → ℕ → ℕ → Type 0
SomeNeeded block zero aisle = (block.ways aisle).skip ≡ None
SomeNeeded block (suc left) aisle = ((block.ways aisle).skip ≡ None) ⊎ SomeNeeded block left (suc aisle)

-- then a tour isn't done before it
not_done : (block : Block) (left aisle : ℕ) → SomeNeeded block left aisle → (r : ℕ) →
    ThroughAndOn block left aisle Z01 r → ⊥
not_done block zero aisle none r h = let done = through_done _ _ r h in none-some _ (sym none ∙ done.1)
not_done block (suc left) aisle (inl none) r h = let done = through_done _ _ r h in none-some _ (sym none ∙ done.1)
not_done block (suc left) aisle (inr later) r h =
    let done = through_done (λ next more. Onward block (suc left) aisle next more) (block.ways aisle) r h in
    let over = crossed_from On (block.spacing aisle) Z01 done.2 done.3 in go over.0 over.1 (λ u there. not_done block left (suc aisle) later u there)
  where
    On : Class → ℕ → Type 0
    On between rest = ThroughAndOn block left (suc aisle) between rest

    go : (cross : Cross) {u : ℕ} → Crossed On (block.spacing aisle) Z01 cross u → ((v : ℕ) → On Z01 v → ⊥) → ⊥
    go C00 over further = further over.rest over.next
    go C11 over further = over.next
    go C20 over further = over.next
    go C02 over further = over.next
    go C22 over further = over.next

-- and before it nothing passed is as good as one part at an end, or two
record StartsAnew (on : Class → ℕ → Type 0) : Type 0 where
  pub behind : (t : ℕ) → on E01 t → on Z00 t
  pub in_front : (t : ℕ) → on ZE1 t → on Z00 t
  pub at_both : (t : ℕ) → on EE2 t → on Z00 t

onward_anew : (block : Block) (left aisle : ℕ) → SomeNeeded block left (suc aisle) → StartsAnew (λ class t. Onward block (suc left) aisle class t)
onward_anew block left aisle later = record {
  behind = λ t h. let over = crossed_from On spacing E01 t h in from_E01 t over.0 over.1;
  in_front = λ t h. let over = crossed_from On spacing ZE1 t h in from_ZE1 t over.0 over.1;
  at_both = λ t h. let over = crossed_from On spacing EE2 t h in from_EE2 t over.0 over.1;
}
  where
    spacing : ℕ
    spacing = block.spacing aisle

    On : Class → ℕ → Type 0
    On between rest = ThroughAndOn block left (suc aisle) between rest

    from_E01 : (t : ℕ) (cross : Cross) → Crossed On spacing E01 cross t → Onward block (suc left) aisle Z00 t
    from_E01 t C00 over = absurd (not_done block left (suc aisle) later over.rest over.next)
    from_E01 t C11 over = absurd over.next
    from_E01 t C20 over = across_crossed On spacing Z00 C20 t (record { rest = over.rest; next = over.next; total_is = over.total_is })
    from_E01 t C02 over = absurd over.next
    from_E01 t C22 over = across_crossed On spacing Z00 C22 t (record { rest = over.rest; next = over.next; total_is = over.total_is })

    from_ZE1 : (t : ℕ) (cross : Cross) → Crossed On spacing ZE1 cross t → Onward block (suc left) aisle Z00 t
    from_ZE1 t C00 over = absurd (not_done block left (suc aisle) later over.rest over.next)
    from_ZE1 t C11 over = absurd over.next
    from_ZE1 t C20 over = absurd over.next
    from_ZE1 t C02 over = across_crossed On spacing Z00 C02 t (record { rest = over.rest; next = over.next; total_is = over.total_is })
    from_ZE1 t C22 over = across_crossed On spacing Z00 C22 t (record { rest = over.rest; next = over.next; total_is = over.total_is })

    from_EE2 : (t : ℕ) (cross : Cross) → Crossed On spacing EE2 cross t → Onward block (suc left) aisle Z00 t
    from_EE2 t C00 over = absurd over.next
    from_EE2 t C11 over = absurd over.next
    from_EE2 t C20 over = absurd over.next
    from_EE2 t C02 over = absurd over.next
    from_EE2 t C22 over = across_crossed On spacing Z00 C22 t (record { rest = over.rest; next = over.next; total_is = over.total_is })

-- on after an aisle: if it can be skipped, a later one is needed
skipped_anew : (block : Block) (left aisle : ℕ) → SomeNeeded block left aisle → (nothing : ℕ) → (block.ways aisle).skip ≡ Some nothing →
    StartsAnew (λ class t. Onward block left aisle class t)
skipped_anew block zero aisle none nothing some = absurd (none-some _ (sym none ∙ some))
skipped_anew block (suc left) aisle (inl none) nothing some = absurd (none-some _ (sym none ∙ some))
skipped_anew block (suc left) aisle (inr later) nothing some = onward_anew block left aisle later

through_anew : (block : Block) (left aisle : ℕ) → SomeNeeded block left aisle →
    StartsAnew (λ class t. ThroughAndOn block left aisle class t)
through_anew block left aisle needed = record {
  behind = λ t h. let by = by_from on ways E01 t h in from_E01 t by.0 by.1;
  in_front = λ t h. let by = by_from on ways ZE1 t h in from_ZE1 t by.0 by.1;
  at_both = λ t h. let by = by_from on ways EE2 t h in from_EE2 t by.0 by.1;
}
  where
    ways : AisleWays
    ways = block.ways aisle

    on : Class → ℕ → Type 0
    on next more = Onward block left aisle next more

    two : (t : ℕ) → on EE2 t → on E01 t × on ZE1 t
    two t h = one_for_two block left aisle t h

    anew : (class : Class) (way : Way) (t : ℕ) (by : By on ways class way t) → OnFrom on (class_after_way Z00 way) by.rest → Through on ways Z00 t
    anew class way t by next = through_by on ways Z00 way t
        (record { long = by.long; rest = by.rest; applies = by.applies; next = next; total_is = by.total_is })

    from_E01 : (t : ℕ) (way : Way) → By on ways E01 way t → Through on ways Z00 t
    from_E01 t Pass by = anew E01 Pass t by by.next
    from_E01 t Back by = anew E01 Back t by by.next
    from_E01 t Front by = anew E01 Front t by (two by.rest by.next).1
    from_E01 t Gap by = anew E01 Gap t by by.next
    from_E01 t Double by = anew E01 Double t by by.next
    from_E01 t Skip by = anew E01 Skip t by ((skipped_anew block left aisle needed by.long by.applies).behind by.rest by.next)

    from_ZE1 : (t : ℕ) (way : Way) → By on ways ZE1 way t → Through on ways Z00 t
    from_ZE1 t Pass by = anew ZE1 Pass t by by.next
    from_ZE1 t Back by = anew ZE1 Back t by (two by.rest by.next).0
    from_ZE1 t Front by = anew ZE1 Front t by by.next
    from_ZE1 t Gap by = anew ZE1 Gap t by by.next
    from_ZE1 t Double by = anew ZE1 Double t by by.next
    from_ZE1 t Skip by = anew ZE1 Skip t by ((skipped_anew block left aisle needed by.long by.applies).in_front by.rest by.next)

    from_EE2 : (t : ℕ) (way : Way) → By on ways EE2 way t → Through on ways Z00 t
    from_EE2 t Pass by = anew EE2 Pass t by by.next
    from_EE2 t Back by = anew EE2 Back t by (two by.rest by.next).0
    from_EE2 t Front by = anew EE2 Front t by (two by.rest by.next).1
    from_EE2 t Gap by = anew EE2 Gap t by by.next
    from_EE2 t Double by = anew EE2 Double t by by.next
    from_EE2 t Skip by = anew EE2 Skip t by ((skipped_anew block left aisle needed by.long by.applies).at_both by.rest by.next)

-- where an aisle isn't needed and a later one is, a tour begins behind it as well
begins_later : (whole : ℕ) (block : Block) → IsEven whole block → (left aisle nothing t : ℕ) → (block.ways aisle).skip ≡ Some nothing →
    SomeNeeded block left (suc aisle) → ThroughAndOn block (suc left) aisle Z00 t →
    NoMore (λ u. ThroughAndOn block left (suc aisle) Z00 u) t
begins_later whole block even left aisle nothing t some later h =
    let by = by_from after (block.ways aisle) Z00 t h in
    go by.0 by.1 (plain_way whole (block.ways aisle) (even.long aisle) (even.spare aisle nothing some) by.0 by.1.long by.1.applies)
  where
    spacing : ℕ
    spacing = block.spacing aisle

    after : Class → ℕ → Type 0
    after next more = Onward block (suc left) aisle next more

    next_ways : AisleWays
    next_ways = block.ways (suc aisle)

    on : Class → ℕ → Type 0
    on between rest = ThroughAndOn block left (suc aisle) between rest

    continues : Continues whole on
    continues = through_continues whole (λ next more. Onward block left (suc aisle) next more) next_ways (even.long (suc aisle))
        (λ u two. one_for_two block left (suc aisle) u two)

    anew : StartsAnew on
    anew = through_anew block left (suc aisle) later

    skipped : (rest : ℕ) (cross : Cross) → Crossed on spacing Z00 cross rest → NoMore (on Z00) rest
    skipped rest C00 over = record { total = over.rest; is = over.next; least = omega (arith, over.total_is) }
    skipped rest C11 over = absurd over.next
    skipped rest C20 over = record { total = over.rest; is = anew.behind over.rest over.next; least = omega (arith, over.total_is) }
    skipped rest C02 over = record { total = over.rest; is = anew.in_front over.rest over.next; least = omega (arith, over.total_is) }
    skipped rest C22 over = record { total = over.rest; is = anew.at_both over.rest over.next; least = omega (arith, over.total_is) }

    passed : (rest : ℕ) (cross : Cross) → Crossed on spacing UU1 cross rest → NoMore (on Z00) (whole + rest)
    passed rest C00 over = absurd over.next
    passed rest C11 over =
        let less = continues.pass Z00 over.rest over.next in record { total = less.total; is = less.is; least = omega (arith, less.least, over.total_is) }
    passed rest C20 over = absurd over.next
    passed rest C02 over = absurd over.next
    passed rest C22 over = absurd over.next

    doubled : (rest : ℕ) (cross : Cross) → Crossed on spacing EE1 cross rest → NoMore (on Z00) (2 * whole + rest)
    doubled rest C00 over = absurd (not_done block left (suc aisle) later over.rest over.next)
    doubled rest C11 over = absurd over.next
    doubled rest C20 over = record { total = over.rest; is = anew.behind over.rest over.next; least = omega (arith, over.total_is) }
    doubled rest C02 over = record { total = over.rest; is = anew.in_front over.rest over.next; least = omega (arith, over.total_is) }
    doubled rest C22 over =
        let less = continues.double Z00 over.rest over.next in record { total = less.total; is = less.is; least = omega (arith, less.least, over.total_is) }

    go : (way : Way) (by : By after (block.ways aisle) Z00 way t) → IsPlain whole way by.long → NoMore (on Z00) t
    go Pass by plain =
        let over = crossed_from on spacing UU1 by.rest by.next in
        let less = passed by.rest over.0 over.1 in record { total = less.total; is = less.is; least = omega (arith, less.least, by.total_is, plain) }
    go Back by plain = absurd plain
    go Front by plain = absurd plain
    go Gap by plain = absurd plain
    go Double by plain =
        let over = crossed_from on spacing EE1 by.rest by.next in
        let less = doubled by.rest over.0 over.1 in record { total = less.total; is = less.is; least = omega (arith, less.least, by.total_is, plain) }
    go Skip by plain =
        let over = crossed_from on spacing Z00 by.rest by.next in
        let less = skipped by.rest over.0 over.1 in record { total = less.total; is = less.is; least = omega (arith, less.least, by.total_is) }

-- an aisle that is needed is one from each before it on
needed_from : (block : Block) (left aisle needed : ℕ) → aisle ≤ needed → needed ≤ aisle + left → (block.ways needed).skip ≡ None → SomeNeeded block left aisle
needed_from block zero aisle needed low high none = let same : needed ≡ aisle = omega arith in subst (λ a. (block.ways a).skip ≡ None) same none
needed_from block (suc left) aisle needed low high none = ⊎_elim
    (λ same. inl (subst (λ a. (block.ways a).skip ≡ None) (sym same) none))
    (λ other. inr (needed_from block left (suc aisle) needed (omega (arith, low, other)) (omega (arith, high)) none))
    (cases_eq aisle needed)

-- so many aisles aren't needed, and then comes the first that is: a tour begins there as well
pub begins_first : (whole : ℕ) (block : Block) → IsEven whole block → (before more left aisle first t : ℕ) → more ≡ before + left → first ≡ aisle + before →
    ((a : ℕ) → aisle ≤ a → a < first → (nothing : ℕ) × ((block.ways a).skip ≡ Some nothing)) → (block.ways first).skip ≡ None →
    ThroughAndOn block more aisle Z00 t → NoMore (λ u. ThroughAndOn block left first Z00 u) t
begins_first whole block even zero more left aisle first t m f none needed h =
    let is_left : more ≡ left = omega (arith, m) in
    let is_first : aisle ≡ first = omega (arith, f) in
    itself (λ u. ThroughAndOn block left first Z00 u) t
    (subst (λ a. ThroughAndOn block left a Z00 t) is_first (subst (λ n. ThroughAndOn block n aisle Z00 t) is_left h))
begins_first whole block even (suc before) more left aisle first t m f none needed h =
    let is_more : more ≡ suc (before + left) = omega (arith, m) in
    let spare = none aisle (omega arith) (omega (arith, f)) in
    let later = needed_from block (before + left) (suc aisle) first (omega (arith, f)) (omega (arith, f)) needed in
    let less = begins_later whole block even (before + left) aisle spare.0 t spare.1 later (subst (λ n. ThroughAndOn block n aisle Z00 t) is_more h) in
    let rest = begins_first whole block even before (before + left) left (suc aisle) first less.total refl (omega (arith, f))
    (λ a low high. none a (omega (arith, low)) high) needed less.is in
    record { total = rest.total; is = rest.is; least = omega (arith, rest.least, less.least) }

-- and a tour that begins there begins before
pub first_begins : (whole : ℕ) (block : Block) → IsEven whole block → (before more left aisle first t : ℕ) → more ≡ before + left → first ≡ aisle + before →
    ((a : ℕ) → aisle ≤ a → a < first → (nothing : ℕ) × ((block.ways a).skip ≡ Some nothing)) → ThroughAndOn block left first Z00 t
    → ThroughAndOn block more aisle Z00 t
first_begins whole block even zero more left aisle first t m f none h =
    let is_left : left ≡ more = omega (arith, m) in
    let is_first : first ≡ aisle = omega (arith, f) in
    subst (λ a. ThroughAndOn block more a Z00 t) is_first (subst (λ n. ThroughAndOn block n first Z00 t) is_left h)
first_begins whole block even (suc before) more left aisle first t m f none h =
    let is_more : suc (before + left) ≡ more = omega (arith, m) in
    let spare = none aisle (omega arith) (omega (arith, f)) in
    let later = first_begins whole block even before (before + left) left (suc aisle) first t refl (omega (arith, f))
    (λ a low high. none a (omega (arith, low)) high) h in
    let same : 0 + (0 * block.spacing aisle + t) ≡ t = omega arith in
    subst (λ n. ThroughAndOn block n aisle Z00 t) is_more (subst (λ u. ThroughAndOn block (suc (before + left)) aisle Z00 u) same
    (skip_over block (before + left) aisle 0 (even.spare aisle spare.0 spare.1).skip Z00 Z00 C00 t refl later))
