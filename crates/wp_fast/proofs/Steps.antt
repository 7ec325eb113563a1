-- One way or one crossing, and on from the class after it.
use Rattle.std.proofs.Common.{◌≡◌, ℕ, ◌+◌, ◌*◌, Option, Some, None, refl, sym, subst}
use Rattle.wp_graph.specs.declared.ways.AisleWays.{AisleWays}
use Rattle.wp_classes.specs.declared.class.Class.{Class}
use Rattle.wp_classes.specs.declared.class.Way.{Way}
use Rattle.wp_classes.specs.declared.class.Cross.{Cross}
use Rattle.wp_classes.specs.Choices.{Block}
use Rattle.wp_classes.specs.Onward.{Across, Onward, Through}
use Rattle.wp_classes.specs.Tables.{class_after_cross, class_after_way, copies, way_length}

-- through an aisle, and on to the end past so many more
abbrev pub ThroughAndOn : Block → ℕ → ℕ → Class → ℕ → Type 0
ThroughAndOn block left aisle before total = Through (λ next rest. Onward block left aisle next rest) (block.ways aisle) before total

-- on from a class, where there is one
abbrev pub OnFrom : (Class → ℕ → Type 0) → Option Class → ℕ → Type 0
OnFrom on None t = ⊥
OnFrom on (Some class) t = on class t

-- there is one
pub on_from_there : (on : Class → ℕ → Type 0) (next : Option Class) (t : ℕ) → OnFrom on next t → (class : Class) × (next ≡ Some class) × on class t
on_from_there on None t h = absurd h
on_from_there on (Some class) t h = (class, refl, h)

-- by this way through an aisle, and on
pub record By (on : Class → ℕ → Type 0) (ways : AisleWays) (class : Class) (way : Way) (total : ℕ) : Type 0 where
  pub long : ℕ
  pub rest : ℕ
  pub applies : way_length ways way ≡ Some long
  pub next : OnFrom on (class_after_way class way) rest
  pub total_is : total ≡ long + rest

pub by_from : (on : Class → ℕ → Type 0) (ways : AisleWays) (class : Class) (t : ℕ) → Through on ways class t → (way : Way) × By on ways class way t
by_from on ways class t (way, (next, through, rest, takes, goes, total)) = (
  way,
  record { long = through; rest = rest; applies = takes.applies; next = subst (λ o. OnFrom on o rest) (sym takes.allowed) goes; total_is = total },
)

pub through_by : (on : Class → ℕ → Type 0) (ways : AisleWays) (class : Class) (way : Way) (t : ℕ) → By on ways class way t → Through on ways class t
through_by on ways class way t by =
    let next = on_from_there on (class_after_way class way) by.rest by.next in
    (way, (next.0, by.long, by.rest, record { allowed = next.1; applies = by.applies }, next.2, by.total_is))

-- over this crossing, and on
pub record Crossed (on : Class → ℕ → Type 0) (spacing : ℕ) (class : Class) (cross : Cross) (total : ℕ) : Type 0 where
  pub rest : ℕ
  pub next : OnFrom on (class_after_cross class cross) rest
  pub total_is : total ≡ copies cross * spacing + rest

pub crossed_from : (on : Class → ℕ → Type 0) (spacing : ℕ) (class : Class) (t : ℕ) → Across on spacing class t
    → (cross : Cross) × Crossed on spacing class cross t
crossed_from on spacing class t (cross, (next, across, rest, crosses, goes, total)) = (
  cross,
  record {
    rest = rest;
    next = subst (λ o. OnFrom on o rest) (sym crosses.allowed) goes;
    total_is = subst (λ a. t ≡ a + rest) crosses.length_is total;
  },
)

pub across_crossed : (on : Class → ℕ → Type 0) (spacing : ℕ) (class : Class) (cross : Cross) (t : ℕ) → Crossed on spacing class cross t
    → Across on spacing class t
across_crossed on spacing class cross t over =
    let next = on_from_there on (class_after_cross class cross) over.rest over.next in
    (cross, (next.0, copies cross * spacing, over.rest, record { allowed = next.1; length_is = refl }, next.2, over.total_is))
