-- The part of a tour left of and with an aisle, as at most two paths that begin at ends of the aisle.
use Rattle.std.specs.Prelude.{◌≡◌, ℕ, suc, ◌-◌, List, [], ◌∷◌, ◌++◌, Some, length, slice_get}
use Rattle.wp_model.specs.declared.point.Point.{Point}
use Rattle.wp_model.specs.Warehouse.{Layout, back_end}
use Rattle.wp_graph.specs.Required.{distance, largest_gap, required_distances, required_places}
use Rattle.wp_classes.specs.declared.class.Class.{Class}
use Rattle.wp_classes.specs.declared.class.Class.TheVariants.{UU1, E01, ZE1, EE1, EE2, Z00, Z01}
use Rattle.wp_classes.specs.declared.class.Way.{Way}
use Rattle.wp_classes.specs.declared.class.Way.TheVariants.{Pass, Back, Front, Gap, Double, Skip}
use Rattle.wp_classes.specs.declared.class.Cross.{Cross}
use Rattle.wp_classes.specs.declared.class.Cross.TheVariants.{C00, C11, C20, C02, C22}
use Rattle.wp_classes.specs.Paths.{at, from_back, from_front, pass_down, pass_up}

-- The paths of a part, by its class after the way through an aisle:
-- UU1: one from the back end to the front end; E01: one from the back end to itself; 0E1: one from the front end to
-- itself; EE1: one from the back end to the front end and one back; EE2: one from each end to itself; 000: none;
-- 001: one from a point further left, kept apart, to itself
pub record Part : Type 0 where
  pub start : Point
  pub first : List Point
  pub second : List Point

-- with one more pass of the aisle
abbrev pub with_pass : Layout → ℕ → Class → Part → Part
with_pass layout aisle UU1 part = record part { second = pass_up layout aisle }
with_pass layout aisle E01 part = record part { first = part.first ++ pass_down layout aisle }
with_pass layout aisle ZE1 part = record part { first = pass_down layout aisle ++ part.first }
with_pass layout aisle EE1 part = record part {
  first = part.first ++ part.second ++ pass_down layout aisle;
  second = [];
}
with_pass layout aisle EE2 part = record part {
  first = part.first ++ pass_down layout aisle ++ part.second;
  second = [];
}
with_pass layout aisle Z00 part = record part { first = pass_down layout aisle }
with_pass layout aisle Z01 part = part

-- with a way from the back end to a place and back
abbrev pub with_back : Layout → ℕ → ℕ → Class → Part → Part
with_back layout aisle far UU1 part = record part { first = from_back layout aisle far ++ part.first }
with_back layout aisle far E01 part = record part { first = from_back layout aisle far ++ part.first }
with_back layout aisle far ZE1 part = record part { first = from_back layout aisle far; second = part.first }
with_back layout aisle far EE1 part = record part { first = from_back layout aisle far ++ part.first }
with_back layout aisle far EE2 part = record part { first = from_back layout aisle far ++ part.first }
with_back layout aisle far Z00 part = record part { first = from_back layout aisle far }
with_back layout aisle far Z01 part = part

-- with a way from the front end to a place and back
abbrev pub with_front : ℕ → ℕ → Class → Part → Part
with_front aisle near UU1 part = record part { first = part.first ++ from_front aisle near }
with_front aisle near E01 part = record part { second = from_front aisle near }
with_front aisle near ZE1 part = record part { first = part.first ++ from_front aisle near }
with_front aisle near EE1 part = record part { first = part.first ++ from_front aisle near }
with_front aisle near EE2 part = record part { second = part.second ++ from_front aisle near }
with_front aisle near Z00 part = record part { first = from_front aisle near }
with_front aisle near Z01 part = part

-- the class with one more pass, and with a way from the back end
abbrev pub class_with_pass : Class → Class
class_with_pass UU1 = EE1
class_with_pass E01 = UU1
class_with_pass ZE1 = UU1
class_with_pass EE1 = UU1
class_with_pass EE2 = UU1
class_with_pass Z00 = UU1
class_with_pass Z01 = Z01

abbrev pub class_with_back : Class → Class
class_with_back UU1 = UU1
class_with_back E01 = E01
class_with_back ZE1 = EE2
class_with_back EE1 = EE1
class_with_back EE2 = EE2
class_with_back Z00 = E01
class_with_back Z01 = Z01

-- with a way through the aisle, which turns at these places
abbrev pub with_way : Layout → ℕ → ℕ → ℕ → Class → Way → Part → Part
with_way layout aisle near far class Pass part = with_pass layout aisle class part
with_way layout aisle near far class Back part = with_back layout aisle far class part
with_way layout aisle near far class Front part = with_front aisle near class part
with_way layout aisle near far class Gap part
    = with_front aisle near (class_with_back class) (with_back layout aisle far class part)
with_way layout aisle near far class Double part
    = with_pass layout aisle (class_with_pass class) (with_pass layout aisle class part)
with_way layout aisle near far class Skip part = part

-- with a crossing from an aisle to the next
abbrev pub with_cross : Layout → ℕ → Class → Cross → Part → Part
with_cross layout aisle UU1 cross part = record part {
  first = at aisle (back_end layout) ∷ part.first ++ at (suc aisle) 0 ∷ [];
}
with_cross layout aisle E01 C00 part = record part { start = at aisle (back_end layout) }
with_cross layout aisle E01 C11 part = part
with_cross layout aisle E01 C20 part = record part {
  first = at aisle (back_end layout) ∷ part.first ++ at (suc aisle) (back_end layout) ∷ [];
}
with_cross layout aisle E01 C02 part = part
with_cross layout aisle E01 C22 part = record part {
  first = at aisle (back_end layout) ∷ part.first ++ at (suc aisle) (back_end layout) ∷ [];
  second = at aisle 0 ∷ at (suc aisle) 0 ∷ [];
}
with_cross layout aisle ZE1 C00 part = record part { start = at aisle 0 }
with_cross layout aisle ZE1 C11 part = part
with_cross layout aisle ZE1 C20 part = part
with_cross layout aisle ZE1 C02 part = record part { first = at aisle 0 ∷ part.first ++ at (suc aisle) 0 ∷ [] }
with_cross layout aisle ZE1 C22 part = record part {
  first = at aisle (back_end layout) ∷ at (suc aisle) (back_end layout) ∷ [];
  second = at aisle 0 ∷ part.first ++ at (suc aisle) 0 ∷ [];
}
with_cross layout aisle EE1 C00 part = record {
  start = at aisle (back_end layout);
  first = part.first ++ part.second;
  second = [];
}
with_cross layout aisle EE1 C11 part = part
with_cross layout aisle EE1 C20 part = record part {
  first = at aisle (back_end layout) ∷ (part.first ++ part.second) ++ at (suc aisle) (back_end layout)
      ∷ [];
  second = [];
}
with_cross layout aisle EE1 C02 part = record part {
  first = at aisle 0 ∷ (part.second ++ part.first) ++ at (suc aisle) 0 ∷ [];
  second = [];
}
with_cross layout aisle EE1 C22 part = record part {
  first = at aisle (back_end layout) ∷ part.first ++ at (suc aisle) 0 ∷ [];
  second = at aisle 0 ∷ part.second ++ at (suc aisle) (back_end layout) ∷ [];
}
with_cross layout aisle EE2 cross part = record part {
  first = at aisle (back_end layout) ∷ part.first ++ at (suc aisle) (back_end layout) ∷ [];
  second = at aisle 0 ∷ part.second ++ at (suc aisle) 0 ∷ [];
}
with_cross layout aisle Z00 C00 part = part
with_cross layout aisle Z00 C11 part = part
with_cross layout aisle Z00 C20 part = record part {
  first = at aisle (back_end layout) ∷ at (suc aisle) (back_end layout) ∷ [];
}
with_cross layout aisle Z00 C02 part = record part { first = at aisle 0 ∷ at (suc aisle) 0 ∷ [] }
with_cross layout aisle Z00 C22 part = record part {
  first = at aisle (back_end layout) ∷ at (suc aisle) (back_end layout) ∷ [];
  second = at aisle 0 ∷ at (suc aisle) 0 ∷ [];
}
with_cross layout aisle Z01 cross part = part

-- two neighbours in a list, and their place in it
pub record AreNeighbours (places : List ℕ) (near far : ℕ) : Type 0 where
  pub before : List ℕ
  pub after : List ℕ
  pub places_are : places ≡ before ++ near ∷ far ∷ after

-- the places at which a way through an aisle turns: the first required place from the back, the last from the front,
-- and for a gap the two places around a largest one
abbrev pub AreTurns : Layout → List Point → ℕ → Way → ℕ → ℕ → Type 0
AreTurns layout picks aisle Pass near far = Unit {0}
AreTurns layout picks aisle Back near far = slice_get (required_places layout picks aisle) 0 ≡ Some far
AreTurns layout picks aisle Front near far
    = slice_get (required_places layout picks aisle) (length (required_places layout picks aisle) - 1) ≡ Some near
AreTurns layout picks aisle Gap near far = AreNeighbours (required_places layout picks aisle) near far
    × (distance layout far - distance layout near ≡ largest_gap (required_distances layout picks aisle))
AreTurns layout picks aisle Double near far = Unit {0}
AreTurns layout picks aisle Skip near far = Unit {0}

-- the start and the points of a whole part
abbrev pub round_start : Layout → ℕ → Class → Part → Point
round_start layout aisle UU1 part = part.start
round_start layout aisle E01 part = at aisle (back_end layout)
round_start layout aisle ZE1 part = at aisle 0
round_start layout aisle EE1 part = at aisle (back_end layout)
round_start layout aisle EE2 part = part.start
round_start layout aisle Z00 part = part.start
round_start layout aisle Z01 part = part.start

abbrev pub round_points : Class → Part → List Point
round_points UU1 part = part.first
round_points E01 part = part.first
round_points ZE1 part = part.first
round_points EE1 part = part.first ++ part.second
round_points EE2 part = part.first
round_points Z00 part = part.first
round_points Z01 part = part.first
