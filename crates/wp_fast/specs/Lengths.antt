-- The lengths that are carried from one needed aisle to the next, and how they come from each other.
use Rattle.std.specs.Prelude.{◌≡◌, ℕ, ◌+◌, ◌-◌, ◌*◌, ◌≤◌, ◌^◌, min, Bool, true, false, IsTrue, List, Option, Some, None}
use Rattle.wp_model.specs.declared.point.Point.{Point}
use Rattle.wp_model.specs.Warehouse.{Layout}
use Rattle.wp_graph.specs.declared.ways.AisleWays.{AisleWays}
use Rattle.wp_graph.specs.AisleLengths.{AreAtMost, ways_of}
use Rattle.wp_classes.specs.declared.class.Class.{Class}
use Rattle.wp_classes.specs.declared.class.Class.TheVariants.{UU1, E01, ZE1, EE1, EE2, Z00, Z01}
use Rattle.wp_classes.specs.Least.{least_by_way}
use Rattle.wp_classes.specs.Onward.{IsLeastOf}
use Rattle.wp_fast.specs.declared.lengths.NeededLengths.{NeededLengths}
use Rattle.wp_fast.specs.Passages.{EndsFrom}
use Rattle.wp_fast.specs.Runs.{PastRun}

-- the length on from a class; there is none on from 000 or 001
abbrev pub on_from : NeededLengths → Class → Option ℕ
on_from lengths UU1 = Some lengths.uu1
on_from lengths E01 = Some lengths.e01
on_from lengths ZE1 = Some lengths.ze1
on_from lengths EE1 = Some lengths.ee1
on_from lengths EE2 = Some lengths.ee2
on_from lengths Z00 = None
on_from lengths Z01 = None

-- after the last needed aisle: nothing more where the tour is closed
abbrev pub ends : Class → Option ℕ
ends UU1 = None
ends E01 = Some 0
ends ZE1 = Some 0
ends EE1 = Some 0
ends EE2 = None
ends Z00 = None
ends Z01 = None

-- the least length by some way, and on
abbrev pub by_some_way : AisleWays → (Class → Option ℕ) → Class → Option ℕ
by_some_way ways on class =
    least_by_way ways (record {
      uu1 = on UU1;
      e01 = on E01;
      ze1 = on ZE1;
      ee1 = on EE1;
      ee2 = on EE2;
      z00 = on
          Z00;
      z01 = on Z01;
    }) class

-- they are short enough that sums of them don't wrap
pub record AreShort (lengths : NeededLengths) : Type 0 where
  pub uu1 : lengths.uu1 ≤ 2 ^ 40
  pub e01 : lengths.e01 ≤ 2 ^ 40
  pub ze1 : lengths.ze1 ≤ 2 ^ 40
  pub ee1 : lengths.ee1 ≤ 2 ^ 40
  pub ee2 : lengths.ee2 ≤ 2 ^ 40

-- the ways through a needed aisle
pub record AreWays (ways : AisleWays) : Type 0 where
  pub needed : ways.skip ≡ None
  pub short : AreAtMost 4020000 ways

-- these are the least lengths by some way, and on by those
pub record HaveLeast (ways : AisleWays) (on : Class → Option ℕ) (before : NeededLengths) : Type 0 where
  pub uu1 : Some before.uu1 ≡ by_some_way ways on UU1
  pub e01 : Some before.e01 ≡ by_some_way ways on E01
  pub ze1 : Some before.ze1 ≡ by_some_way ways on ZE1
  pub ee1 : Some before.ee1 ≡ by_some_way ways on EE1
  pub ee2 : Some before.ee2 ≡ by_some_way ways on EE2

-- the least lengths from the other end of a run that is so long
abbrev pub along_run : ℕ → NeededLengths → NeededLengths
along_run span before = record {
  uu1 = 2 * span + before.uu1;
  e01 = 2 * span + before.e01;
  ze1 = 2 * span + before.ze1;
  ee1 = min (min (2 * span + before.e01) (2 * span + before.ze1)) (4 * span + before.ee1);
  ee2 = 4 * span + before.ee2;
}

-- from before an aisle, past it and all that are behind it, to the end of a tour
abbrev pub PastTheRest : Layout → List Point → ℕ → Class → ℕ → Type 0
PastTheRest layout picks aisle before total
    = EndsFrom (PastRun layout picks (layout.aisles + 1 - aisle) aisle) before total

-- something has been passed in these classes, and the tour isn't done
abbrev pub is_begun : Class → Bool
is_begun UU1 = true
is_begun E01 = true
is_begun ZE1 = true
is_begun EE1 = true
is_begun EE2 = true
is_begun Z00 = false
is_begun Z01 = false

-- lengths that are carried to an aisle: the least ones on from each class before it in which something has been passed
pub record AreCarried (on : Class → ℕ → Type 0) (lengths : NeededLengths) : Type 0 where
  pub least : (class : Class) → IsTrue (is_begun class) → IsLeastOf (on class) (on_from lengths class)

-- lengths on from behind a needed aisle: by some way through it, and on by them, is the least past it and all behind it
pub record AreBehind (layout : Layout) (picks : List Point) (aisle : ℕ) (on : Class → Option ℕ) : Type 0 where
  pub least : (class : Class) → IsLeastOf (PastTheRest layout picks aisle class)
      (by_some_way (ways_of layout picks aisle) on class)
