-- A pass or two in an aisle that are not needed there can be spared where a tour goes through a needed aisle beside it.
use Rattle.std.proofs.Common.{◌≡◌, ℕ, zero, suc, ◌+◌, ◌*◌, Some, option_and_then, arith, refl, sym, ◌∙◌, ap, subst}
use Rattle.std.proofs.lemmas.Bool.{false≢true}
use Rattle.std.proofs.lemmas.Option.{same_Some}
use Rattle.wp_graph.specs.declared.ways.AisleWays.{AisleWays}
use Rattle.wp_classes.specs.declared.class.Class.{Class}
use Rattle.wp_classes.specs.declared.class.Class.TheVariants.{E01, ZE1, EE2}
use Rattle.wp_classes.specs.declared.class.Way.{Way}
use Rattle.wp_classes.specs.declared.class.Way.TheVariants.{Pass, Back, Front, Gap, Double, Skip}
use Rattle.wp_classes.specs.declared.class.Cross.{Cross}
use Rattle.wp_classes.specs.declared.class.Cross.TheVariants.{C00, C11, C20, C02, C22}
use Rattle.wp_classes.specs.Choices.{Block, TakesWay}
use Rattle.wp_classes.specs.Onward.{Onward, Through}
use Rattle.wp_classes.specs.Tables.{class_after_way, way_length}
use Rattle.wp_fast.proofs.NoMore.{NoMore}
use Rattle.wp_fast.proofs.Steps.{By, Crossed, OnFrom, across_crossed, by_from, crossed_from, on_from_there, through_by}
use Rattle.wp_fast.proofs.Tables.{double_then, pass_then, then_double, then_pass, with_double, with_pass}

-- a pass of the aisle is so long, and a double twice as long
pub record IsLong (whole : ℕ) (ways : AisleWays) : Type 0 where
  pub pass : ways.pass ≡ whole
  pub double : ways.double ≡ 2 * whole

-- a way with a pass more is at most a pass longer
pub pass_more : (whole : ℕ) (ways : AisleWays) → IsLong whole ways → (way : Way) (long : ℕ) → way_length ways way ≡ Some long →
    NoMore (λ l. way_length ways (with_pass way) ≡ Some l) (whole + long)
pass_more whole ways is Pass long e = let same = same_Some _ _ e in record { total = ways.double; is = refl; least = omega (arith, is.pass, is.double, same) }
pass_more whole ways is Back long e = record { total = ways.pass; is = refl; least = omega (arith, is.pass) }
pass_more whole ways is Front long e = record { total = ways.pass; is = refl; least = omega (arith, is.pass) }
pass_more whole ways is Gap long e = record { total = ways.pass; is = refl; least = omega (arith, is.pass) }
pass_more whole ways is Double long e = record { total = ways.pass; is = refl; least = omega (arith, is.pass) }
pass_more whole ways is Skip long e = record { total = ways.pass; is = refl; least = omega (arith, is.pass) }

-- a way with two passes more is at most two passes longer
pub double_more : (whole : ℕ) (ways : AisleWays) → IsLong whole ways → (way : Way) (long : ℕ) → way_length ways way ≡ Some long →
    NoMore (λ l. way_length ways (with_double way) ≡ Some l) (2 * whole + long)
double_more whole ways is Pass long e = record { total = ways.pass; is = refl; least = omega (arith, is.pass) }
double_more whole ways is Back long e = record { total = ways.double; is = refl; least = omega (arith, is.double) }
double_more whole ways is Front long e = record { total = ways.double; is = refl; least = omega (arith, is.double) }
double_more whole ways is Gap long e = record { total = ways.double; is = refl; least = omega (arith, is.double) }
double_more whole ways is Double long e = record { total = ways.double; is = refl; least = omega (arith, is.double) }
double_more whole ways is Skip long e = record { total = ways.double; is = refl; least = omega (arith, is.double) }

-- To go on by these classes, a pass or two before are never shorter than none, and two parts, one at each end, are never better
-- than one.
pub record Continues (whole : ℕ) (on : Class → ℕ → Type 0) : Type 0 where
  pub pass : (class : Class) (t : ℕ) → OnFrom on (class_after_way class Pass) t → NoMore (on class) (whole + t)
  pub double : (class : Class) (t : ℕ) → OnFrom on (class_after_way class Double) t → NoMore (on class) (2 * whole + t)
  pub behind : (t : ℕ) → on EE2 t → on E01 t
  pub in_front : (t : ℕ) → on EE2 t → on ZE1 t

-- after an aisle one part at an end may go on where two may
pub one_for_two : (block : Block) (left aisle : ℕ) (t : ℕ) → Onward block left aisle EE2 t → Onward block left aisle E01 t × Onward block left aisle ZE1 t
one_for_two block zero aisle t h = absurd (false≢true h.0)
one_for_two block (suc left) aisle t h =
    let over = crossed_from On (block.spacing aisle) EE2 t h in go over.0 over.1
  where
    On : Class → ℕ → Type 0
    On between rest = Through (λ next more. Onward block left (suc aisle) next more) (block.ways (suc aisle)) between rest

    go : (cross : Cross) → Crossed On (block.spacing aisle) EE2 cross t → Onward block (suc left) aisle E01 t × Onward block (suc left) aisle ZE1 t
    go C00 over = absurd over.next
    go C11 over = absurd over.next
    go C20 over = absurd over.next
    go C02 over = absurd over.next
    go C22 over = (
      across_crossed On (block.spacing aisle) E01 C22 t (record { rest = over.rest; next = over.next; total_is = over.total_is }),
      across_crossed On (block.spacing aisle) ZE1 C22 t (record { rest = over.rest; next = over.next; total_is = over.total_is }),
    )

-- a way through an aisle, and on after it
pub through_continues : (whole : ℕ) (on : Class → ℕ → Type 0) (ways : AisleWays) → IsLong whole ways → ((t : ℕ) → on EE2 t → on E01 t × on ZE1 t) →
    Continues whole (λ class t. Through on ways class t)
through_continues whole on ways is eased = record {
  pass = λ class t h.
      let mid = on_from_there At (class_after_way class Pass) t h in
      let by = by_from on ways mid.0 t mid.2 in
      let more = pass_more whole ways is by.0 by.1.long by.1.applies in
      let leads : class_after_way mid.0 by.0 ≡ class_after_way class (with_pass by.0) =
      sym (ap (λ o. option_and_then (λ c. class_after_way c by.0) o) mid.1) ∙ pass_then class by.0 in
      record {
        total = more.total + by.1.rest;
        is = through_by on ways class (with_pass by.0) (more.total + by.1.rest) (record {
          long = more.total;
          rest = by.1.rest;
          applies = more.is;
          next = subst (λ o. OnFrom on o by.1.rest) leads by.1.next;
          total_is = refl;
        });
        least = omega (arith, more.least, by.1.total_is);
      };
  double = λ class t h.
      let mid = on_from_there At (class_after_way class Double) t h in
      let by = by_from on ways mid.0 t mid.2 in
      let more = double_more whole ways is by.0 by.1.long by.1.applies in
      let leads : class_after_way mid.0 by.0 ≡ class_after_way class (with_double by.0) =
      sym (ap (λ o. option_and_then (λ c. class_after_way c by.0) o) mid.1) ∙ double_then class by.0 in
      record {
        total = more.total + by.1.rest;
        is = through_by on ways class (with_double by.0) (more.total + by.1.rest) (record {
          long = more.total;
          rest = by.1.rest;
          applies = more.is;
          next = subst (λ o. OnFrom on o by.1.rest) leads by.1.next;
          total_is = refl;
        });
        least = omega (arith, more.least, by.1.total_is);
      };
  behind = λ t h. let by = by_from on ways EE2 t h in go_behind t by.0 by.1;
  in_front = λ t h. let by = by_from on ways EE2 t h in go_in_front t by.0 by.1;
}
  where
    At : Class → ℕ → Type 0
    At class t = Through on ways class t

    go_behind : (t : ℕ) (way : Way) → By on ways EE2 way t → Through on ways E01 t
    go_behind t Pass by = through_by on ways E01 Pass t
        (record { long = by.long; rest = by.rest; applies = by.applies; next = by.next; total_is = by.total_is })
    go_behind t Back by = through_by on ways E01 Back t
        (record { long = by.long; rest = by.rest; applies = by.applies; next = (eased by.rest by.next).0; total_is = by.total_is })
    go_behind t Front by = through_by on ways E01 Front t
        (record { long = by.long; rest = by.rest; applies = by.applies; next = by.next; total_is = by.total_is })
    go_behind t Gap by = through_by on ways E01 Gap t (record { long = by.long; rest = by.rest; applies = by.applies; next = by.next; total_is = by.total_is })
    go_behind t Double by = through_by on ways E01 Double t
        (record { long = by.long; rest = by.rest; applies = by.applies; next = by.next; total_is = by.total_is })
    go_behind t Skip by = through_by on ways E01 Skip t
        (record { long = by.long; rest = by.rest; applies = by.applies; next = (eased by.rest by.next).0; total_is = by.total_is })

    go_in_front : (t : ℕ) (way : Way) → By on ways EE2 way t → Through on ways ZE1 t
    go_in_front t Pass by = through_by on ways ZE1 Pass t
        (record { long = by.long; rest = by.rest; applies = by.applies; next = by.next; total_is = by.total_is })
    go_in_front t Back by = through_by on ways ZE1 Back t
        (record { long = by.long; rest = by.rest; applies = by.applies; next = by.next; total_is = by.total_is })
    go_in_front t Front by = through_by on ways ZE1 Front t
        (record { long = by.long; rest = by.rest; applies = by.applies; next = (eased by.rest by.next).1; total_is = by.total_is })
    go_in_front t Gap by = through_by on ways ZE1 Gap t
        (record { long = by.long; rest = by.rest; applies = by.applies; next = by.next; total_is = by.total_is })
    go_in_front t Double by = through_by on ways ZE1 Double t
        (record { long = by.long; rest = by.rest; applies = by.applies; next = by.next; total_is = by.total_is })
    go_in_front t Skip by = through_by on ways ZE1 Skip t
        (record { long = by.long; rest = by.rest; applies = by.applies; next = (eased by.rest by.next).1; total_is = by.total_is })

-- a tour comes somewhere before the way through an aisle, and takes it
abbrev pub Arrives : (Class → ℕ → Type 0) → AisleWays → Class → ℕ → Type 0
Arrives come ways class total =
    (before : Class) × (so_far : ℕ) × (way : Way) × (through : ℕ) × come before so_far × TakesWay ways way before class through × (total ≡ so_far + through)

-- where a tour comes to a class, it comes with a pass or two more to the class after these, and is at most so much longer
pub record Absorbs (whole : ℕ) (come : Class → ℕ → Type 0) : Type 0 where
  pub pass : (class next : Class) (t : ℕ) → class_after_way class Pass ≡ Some next → come class t → NoMore (come next) (t + whole)
  pub double : (class next : Class) (t : ℕ) → class_after_way class Double ≡ Some next → come class t → NoMore (come next) (t + 2 * whole)

-- after a way through an aisle
pub arriving_absorbs : (whole : ℕ) (come : Class → ℕ → Type 0) (ways : AisleWays) → IsLong whole ways → Absorbs whole (Arrives come ways)
arriving_absorbs whole come ways is = record {
  pass = λ class next t leads h.
      let way = h.2 in
      let more = pass_more whole ways is way h.3 h.5.applies in
      let allowed : class_after_way h.0 (with_pass way) ≡ Some next =
      sym (then_pass h.0 way) ∙ ap (λ o. option_and_then (λ c. class_after_way c Pass) o) h.5.allowed ∙ leads in
      record {
        total = h.1 + more.total;
        is = (h.0, h.1, with_pass way, more.total, h.4, record { allowed = allowed; applies = more.is }, refl);
        least = omega (arith, more.least, h.6);
      };
  double = λ class next t leads h.
      let way = h.2 in
      let more = double_more whole ways is way h.3 h.5.applies in
      let allowed : class_after_way h.0 (with_double way) ≡ Some next =
      sym (then_double h.0 way) ∙ ap (λ o. option_and_then (λ c. class_after_way c Double) o) h.5.allowed ∙ leads in
      record {
        total = h.1 + more.total;
        is = (h.0, h.1, with_double way, more.total, h.4, record { allowed = allowed; applies = more.is }, refl);
        least = omega (arith, more.least, h.6);
      };
}
