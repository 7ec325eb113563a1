-- From a class that fits what a tour walks, some crossing that the tables allow and that is no longer leads to a
-- class that fits.
use Rattle.std.proofs.Common.{◌≡◌, ℕ, ◌+◌, ◌<◌, ◌≤◌, Bool, true, false, Some, not, arith, refl, sym, ap, ◌∙◌, ⊎_elim}
use Rattle.wp_graph.specs.Sites.{last_place}
use Rattle.wp_graph.specs.TourCopies.{IsUnwalked}
use Rattle.wp_classes.specs.declared.class.Class.{Class}
use Rattle.wp_classes.specs.declared.class.Class.TheVariants.{UU1, E01, ZE1, EE1, EE2, Z00, Z01}
use Rattle.wp_classes.specs.declared.class.Cross.{Cross}
use Rattle.wp_classes.specs.declared.class.Cross.TheVariants.{C00, C11, C20, C02, C22}
use Rattle.wp_classes.specs.Tables.{class_after_cross, copies}
use Rattle.wp_classes.proofs.FiveCrossings.{copies_behind, copies_in_front, one_of_five_crossings}
use Rattle.wp_classes.proofs.FitClasses.{AllLeft, Agrees, Crossed, Fits, IsLeft, Linked, Sides, Tells, Toured, beside, beside_left, beside_right, everywhere}
use Rattle.wp_classes.proofs.FitClasses.{home, kept_beside, split_cases, true_false}

-- a crossing that is no longer than what the tour walks there
pub record CrossesOn (t : Toured) (j : ℕ) (class : Class) : Type 0 where
  pub cross : Cross
  pub next : Class
  pub takes : class_after_cross class cross ≡ Some next
  pub fits : Crossed t j next
  pub least : copies cross ≤ t.copies.behind j + t.copies.front j

sides_linked : (t : Toured) (j : ℕ) (c : ℕ → ℕ → Bool) → Sides t j c → Linked t j c
sides_linked t j c sides = record { left = sides.left; back = λ some. sides.back; front = λ some. sides.front }

-- a colouring up to an aisle, with one colour beyond it, is that colouring up to the aisle
pub beside_agrees : (t : Toured) (j : ℕ) (c : ℕ → ℕ → Bool) (x : Bool) → Agrees j c (beside j c (λ s. x))
beside_agrees t j c x = λ a s low. beside_left j c (λ s. x) a s low

-- nothing is needed beyond an aisle from which nothing crosses, where what is left tells the other colour
all_left : (t : Toured) (j : ℕ) (c : ℕ → ℕ → Bool) (x y : Bool) → (x ≡ y → ⊥) → Tells t j c x → IsUnwalked t.site t.copies (beside j c (λ s. y)) → AllLeft t j
all_left t j c x y apart tells kept p on = ⊎_elim (λ low. low)
    (λ high.
    let there = t.are.joined.needed (beside j c (λ s. y)) kept p on in
    absurd (apart (sym (tells (beside j c (λ s. y)) kept (beside_agrees t j c y)) ∙ sym there ∙ beside_right j c (λ s. y) p.aisle p.slot high)))
    (split_cases p.aisle j)

-- a walked crossing tells the colour of the end where it begins
front_tells : (t : Toured) (j : ℕ) (c : ℕ → ℕ → Bool) (x : Bool) → 0 < t.copies.front j → c j 0 ≡ x → Tells t j c x
front_tells t j c x some is = λ other kept agrees. sym (t.are.joined.front other kept j some) ∙ agrees j 0 (omega arith) ∙ is

behind_tells : (t : Toured) (j : ℕ) (c : ℕ → ℕ → Bool) (x : Bool) → 0 < t.copies.behind j → c j (last_place t.site) ≡ x → Tells t j c x
behind_tells t j c x some is = λ other kept agrees. sym (t.are.joined.behind other kept j some) ∙ agrees j (last_place t.site) (omega arith) ∙ is

-- two colours cannot both be the depot's
pub never_both : (t : Toured) (j : ℕ) (c other : ℕ → ℕ → Bool) → Tells t j c true → Tells t j c false → IsUnwalked t.site t.copies other → Agrees j c other → ⊥
never_both t j c other one two kept agrees = true_false (sym (one other kept agrees) ∙ two other kept agrees)

-- where nothing crosses behind, all beyond may have the colour of the front end
pub front_alone : (t : Toured) (j : ℕ) (c : ℕ → ℕ → Bool) → t.copies.behind j ≡ 0 → Sides t j c → IsUnwalked t.site t.copies (beside j c (λ s. false))
front_alone t j c none sides = kept_beside t j c false sides.left (λ some. absurd (omega (arith, some, none))) (λ some. sides.front)

-- where nothing crosses in front, all beyond may have the colour of the back end
pub back_alone : (t : Toured) (j : ℕ) (c : ℕ → ℕ → Bool) → t.copies.front j ≡ 0 → Sides t j c → IsUnwalked t.site t.copies (beside j c (λ s. true))
back_alone t j c none sides = kept_beside t j c true sides.left (λ some. sides.back) (λ some. absurd (omega (arith, some, none)))

kept_not : (t : Toured) (colour : ℕ → ℕ → Bool) → IsUnwalked t.site t.copies colour → IsUnwalked t.site t.copies (λ a s. not (colour a s))
kept_not t colour kept = record {
  deep = λ a s some. ap not (kept.deep a s some);
  behind = λ a some. ap not (kept.behind a some);
  front = λ a some. ap not (kept.front a some);
}

not_true : (b : Bool) → not b ≡ true → b ≡ false
not_true true e = sym e
not_true false e = refl

false_everywhere : (t : Toured) (j : ℕ) → Tells t j (everywhere true) true → Tells t j (everywhere false) false
false_everywhere t j tells = λ other kept agrees. not_true (home t other)
    (tells (λ a s. not (other a s)) (kept_not t other kept) (λ a s low. ap not (agrees a s low)))

-- no walked piece changes one colour everywhere
pub everywhere_left : (t : Toured) (j : ℕ) (x : Bool) → IsLeft t j (everywhere x)
everywhere_left t j x = record { deep = λ a s low some. refl; behind = λ a low some. refl; front = λ a low some. refl }

-- what the tour walks between two aisles is this crossing
pub record Walks (t : Toured) (j : ℕ) (cross : Cross) : Type 0 where
  pub behind : t.copies.behind j ≡ copies_behind cross
  pub front : t.copies.front j ≡ copies_in_front cross

-- odd and even
cross_odd : (t : Toured) (j : ℕ) (cross : Cross) → Walks t j cross → Fits t j UU1 → CrossesOn t j UU1
cross_odd t j C00 walks odd = absurd (omega (arith, walks.front, odd))
cross_odd t j C11 walks odd = record { cross = C11; next = UU1; takes = refl; fits = odd; least = omega (arith, walks.behind, walks.front) }
cross_odd t j C20 walks odd = absurd (omega (arith, walks.front, odd))
cross_odd t j C02 walks odd = absurd (omega (arith, walks.front, odd))
cross_odd t j C22 walks odd = absurd (omega (arith, walks.front, odd))

-- the part at the back end
cross_back : (t : Toured) (j : ℕ) (cross : Cross) → Walks t j cross → Fits t j E01 → CrossesOn t j E01
cross_back t j C00 walks (even, c, sides, one) = record {
  cross = C00;
  next = Z01;
  takes = refl;
  least = omega arith;
  fits = all_left t j c true false true_false one.tells (front_alone t j c walks.behind sides);
}
cross_back t j C11 walks (even, c, sides, one) = absurd (omega (arith, walks.front, even))
cross_back t j C20 walks (even, c, sides, one) = record {
  cross = C20;
  next = E01;
  takes = refl;
  least = omega (arith, walks.behind, walks.front);
  fits = (even, c, sides_linked t j c sides, one);
}
cross_back t j C02 walks (even, c, sides, one) =
    absurd (never_both t j c (beside j c (λ s. false)) one.tells (front_tells t j c false (omega (arith, walks.front)) sides.front)
    (front_alone t j c walks.behind sides) (beside_agrees t j c false))
cross_back t j C22 walks (even, c, sides, one) = record {
  cross = C22;
  next = EE2;
  takes = refl;
  least = omega (arith, walks.behind, walks.front);
  fits = (even, c, sides_linked t j c sides, record { one = one.tells; other = front_tells t j c false (omega (arith, walks.front)) sides.front });
}

-- the part at the front end
cross_front : (t : Toured) (j : ℕ) (cross : Cross) → Walks t j cross → Fits t j ZE1 → CrossesOn t j ZE1
cross_front t j C00 walks (even, c, sides, one) = record {
  cross = C00;
  next = Z01;
  takes = refl;
  least = omega arith;
  fits = all_left t j c false true (λ e. true_false (sym e)) one.tells (back_alone t j c walks.front sides);
}
cross_front t j C11 walks (even, c, sides, one) = absurd (omega (arith, walks.front, even))
cross_front t j C20 walks (even, c, sides, one) =
    absurd (never_both t j c (beside j c (λ s. true)) (behind_tells t j c true (omega (arith, walks.behind)) sides.back) one.tells
    (back_alone t j c walks.front sides) (beside_agrees t j c true))
cross_front t j C02 walks (even, c, sides, one) = record {
  cross = C02;
  next = ZE1;
  takes = refl;
  least = omega (arith, walks.behind, walks.front);
  fits = (even, c, sides_linked t j c sides, one);
}
cross_front t j C22 walks (even, c, sides, one) = record {
  cross = C22;
  next = EE2;
  takes = refl;
  least = omega (arith, walks.behind, walks.front);
  fits = (even, c, sides_linked t j c sides, record { one = behind_tells t j c true (omega (arith, walks.behind)) sides.back; other = one.tells });
}

-- one part, which joins the ends
cross_both : (t : Toured) (j : ℕ) (cross : Cross) → Walks t j cross → Fits t j EE1 → CrossesOn t j EE1
cross_both t j C00 walks (even, tells) = record {
  cross = C00;
  next = Z01;
  takes = refl;
  least = omega arith;
  fits = all_left t j (everywhere true) true false true_false tells
      (kept_beside t j (everywhere true) false (everywhere_left t j true) (λ some. absurd (omega (arith, some, walks.behind)))
      (λ some. absurd (omega (arith, some, walks.front))));
}
cross_both t j C11 walks (even, tells) = absurd (omega (arith, walks.front, even))
cross_both t j C20 walks (even, tells) = record {
  cross = C20;
  next = E01;
  takes = refl;
  least = omega (arith, walks.behind, walks.front);
  fits = (
    even,
    everywhere true,
    record { left = everywhere_left t j true; back = λ some. refl; front = λ some. absurd (omega (arith, some, walks.front)) },
    record { all = λ p on low. refl; tells = tells },
  );
}
cross_both t j C02 walks (even, tells) = record {
  cross = C02;
  next = ZE1;
  takes = refl;
  least = omega (arith, walks.behind, walks.front);
  fits = (
    even,
    everywhere false,
    record { left = everywhere_left t j false; back = λ some. absurd (omega (arith, some, walks.behind)); front = λ some. refl },
    record { all = λ p on low. refl; tells = false_everywhere t j tells },
  );
}
cross_both t j C22 walks (even, tells) = record {
  cross = C22;
  next = EE1;
  takes = refl;
  least = omega (arith, walks.behind, walks.front);
  fits = (even, tells);
}

-- two parts, which never meet unless both ends cross
cross_two : (t : Toured) (j : ℕ) (cross : Cross) → Walks t j cross → Fits t j EE2 → CrossesOn t j EE2
cross_two t j C00 walks (even, c, sides, two) = absurd (never_both t j c (beside j c (λ s. false)) two.one two.other (front_alone t j c walks.behind sides)
    (beside_agrees t j c false))
cross_two t j C11 walks (even, c, sides, two) = absurd (omega (arith, walks.front, even))
cross_two t j C20 walks (even, c, sides, two) = absurd (never_both t j c (beside j c (λ s. true)) two.one two.other (back_alone t j c walks.front sides)
    (beside_agrees t j c true))
cross_two t j C02 walks (even, c, sides, two) = absurd (never_both t j c (beside j c (λ s. false)) two.one two.other (front_alone t j c walks.behind sides)
    (beside_agrees t j c false))
cross_two t j C22 walks (even, c, sides, two) = record {
  cross = C22;
  next = EE2;
  takes = refl;
  least = omega (arith, walks.behind, walks.front);
  fits = (even, c, sides_linked t j c sides, two);
}

-- nothing passed yet: what the tour walks here is left out
cross_none : (t : Toured) (j : ℕ) → Fits t j Z00 → CrossesOn t j Z00
cross_none t j (even, c, sides, none) = record { cross = C00; next = Z00; takes = refl; least = omega arith; fits = (even, c, sides_linked t j c sides, none) }

-- all passed
cross_done : (t : Toured) (j : ℕ) → Fits t j Z01 → CrossesOn t j Z01
cross_done t j all = record { cross = C00; next = Z01; takes = refl; least = omega arith; fits = all }

by_crossing : (t : Toured) (j : ℕ) (class : Class) (cross : Cross) → Walks t j cross → Fits t j class → CrossesOn t j class
by_crossing t j UU1 cross walks fits = cross_odd t j cross walks fits
by_crossing t j E01 cross walks fits = cross_back t j cross walks fits
by_crossing t j ZE1 cross walks fits = cross_front t j cross walks fits
by_crossing t j EE1 cross walks fits = cross_both t j cross walks fits
by_crossing t j EE2 cross walks fits = cross_two t j cross walks fits
by_crossing t j Z00 cross walks fits = cross_none t j fits
by_crossing t j Z01 cross walks fits = cross_done t j fits

-- where a class fits, some crossing that the tables allow and that is no longer leads to a class that fits
pub crosses_on : (t : Toured) (j : ℕ) (class : Class) → Fits t j class → CrossesOn t j class
crosses_on t j class fits =
    let is = one_of_five_crossings (t.copies.behind j) (t.copies.front j) (t.few.behind j) (t.few.front j) (t.are.even.across j) in
    by_crossing t j class is.cross (record { behind = is.behind_is; front = is.front_is }) fits
