-- The stops of three usual rules. Home is the depot's end of each aisle, and far is the other end; depths are counted
-- from home. S-shape and largest gap: Hall, IIE Transactions 25, 1993.
use Rattle.std.specs.Prelude.{ℕ, zero, suc, ◌+◌, ◌-◌, ◌==◌, nat_lt, Bool, true, false, List, [], ◌∷◌, ◌++◌, filter}
use Rattle.std.specs.Prelude.{if◌then◌else◌, reverse}
use Rattle.std.specs.List.{flat_map, list_any, range_with_len}
use Rattle.wp_model.specs.declared.point.Point.{Point}
use Rattle.wp_model.specs.Warehouse.{End, IsUpTo, Layout, back_end, depot_point}
use Rattle.wp_model.specs.Warehouse.End.{at_front, at_back}
use Rattle.wp_graph.specs.Members.{Among}
use Rattle.wp_graph.specs.Required.{distance, has_point}
use Rattle.wp_rules.specs.declared.rule.Rule.{Rule}
use Rattle.wp_rules.specs.declared.rule.Rule.TheVariants.{SShape, Return, LargestGap}
use Rattle.wp_rules.specs.declared.gap.Gap.{Gap}
use Rattle.wp_rules.specs.Straight.{past}

-- the place of this depth, where the aisle ends at the back at this place
abbrev pub place_of : End → ℕ → ℕ → ℕ
place_of at_front last depth = depth
place_of at_back last depth = last - depth

-- the stop in an aisle at a depth
abbrev pub stop : Layout → ℕ → ℕ → Point
stop layout aisle depth = record { aisle = aisle; slot = place_of layout.end (back_end layout) depth }

abbrev pub home : Layout → ℕ → Point
home layout aisle = stop layout aisle 0

abbrev pub far : Layout → ℕ → Point
far layout aisle = stop layout aisle (back_end layout)

-- whether the slot at a depth is picked
abbrev pub is_picked : Layout → List Point → ℕ → ℕ → Bool
is_picked layout picks aisle depth = has_point picks aisle (place_of layout.end (back_end layout) depth)

-- the greatest depth up to one at which a test passes, 0 where there is none
unfoldable pub deepest_where : (ℕ → Bool) → ℕ → ℕ
deepest_where test zero = 0
deepest_where test (suc depth) = if test (suc depth) then suc depth else deepest_where test depth

-- the deepest pick of an aisle, 0 where there is none
abbrev pub deepest : Layout → List Point → ℕ → ℕ
deepest layout picks aisle = deepest_where (is_picked layout picks aisle) layout.slots

-- how wide a gap is
abbrev pub width : Layout → Gap → ℕ
width layout gap = distance layout gap.deep - distance layout gap.shallow

-- the wider of two gaps, of equal ones that nearer to home
abbrev pub wider : Layout → Gap → Gap → Gap
wider layout gap deeper = if nat_lt (width layout gap) (width layout deeper) then deeper else gap

-- the widest of the gaps between neighbours of a list: a last depth, those of so many from a depth on at which a test
-- passes, and the depth after them
unfoldable pub widest_where : Layout → (ℕ → Bool) → ℕ → ℕ → ℕ → Gap
widest_where layout test last depth zero = record { shallow = last; deep = depth }
widest_where layout test last depth (suc n) = if test depth
    then wider layout (record { shallow = last; deep = depth }) (widest_where layout test depth (suc depth) n)
    else widest_where layout test last (suc depth) n

-- the gap of an aisle: the widest between home, its picks and far
abbrev pub gap_of : Layout → List Point → ℕ → Gap
gap_of layout picks aisle = widest_where layout (is_picked layout picks aisle) 0 1 layout.slots

-- into an aisle from home to a depth and back, where there is anything to pick
abbrev pub from_home : Layout → ℕ → ℕ → List Point
from_home layout aisle depth = if depth == 0 then []
    else home layout aisle ∷ stop layout aisle depth ∷ home layout aisle ∷ []

-- into an aisle from far to a depth and back, where there is anything to pick
abbrev pub from_far : Layout → ℕ → ℕ → List Point
from_far layout aisle depth = if depth == back_end layout then []
    else far layout aisle ∷ stop layout aisle depth ∷ far layout aisle ∷ []

-- an aisle as the rule of return serves it: to its deepest pick and back
abbrev pub return_stops : Layout → List Point → ℕ → List Point
return_stops layout picks aisle = from_home layout aisle (deepest layout picks aisle)

-- the picks before the gap of an aisle, from home; and those behind it, from far
abbrev pub home_part : Layout → List Point → ℕ → List Point
home_part layout picks aisle = from_home layout aisle (gap_of layout picks aisle).shallow

abbrev pub far_part : Layout → List Point → ℕ → List Point
far_part layout picks aisle = from_far layout aisle (gap_of layout picks aisle).deep

-- whether an aisle has a pick, and the aisles that have
abbrev pub has_pick : List Point → ℕ → Bool
has_pick picks aisle = list_any (λ (point : Point). point.aisle == aisle) picks

abbrev pub picked_aisles : Layout → List Point → List ℕ
picked_aisles layout picks = filter (has_pick picks) (range_with_len 1 layout.aisles)

-- the aisles of a list are aisles of the layout
abbrev pub AreAisles : Layout → List ℕ → Type 0
AreAisles layout aisles = (aisle : ℕ) → Among aisles aisle → IsUpTo layout.aisles aisle

-- the last of some aisles that come after one, or that one
abbrev pub last_of : ℕ → List ℕ → ℕ
last_of aisle [] = aisle
last_of aisle (next ∷ aisles) = last_of next aisles

-- each aisle with picks in turn, to its deepest pick and back
unfoldable pub in_turn : Layout → List Point → List ℕ → List Point
in_turn layout picks aisles = flat_map (return_stops layout picks) aisles

-- through each aisle from the end where one is, the last as in return where one is at home
unfoldable pub through : Layout → List Point → Bool → List ℕ → List Point
through layout picks at_far [] = []
through layout picks true (aisle ∷ aisles) = far layout aisle ∷ home layout aisle ∷ through layout picks false aisles
through layout picks false (aisle ∷ []) = return_stops layout picks aisle
through layout picks false (aisle ∷ next ∷ aisles)
    = home layout aisle ∷ far layout aisle ∷ through layout picks true (next ∷ aisles)

-- up the first aisle, along far to the far parts of those between, down the last, and along home to the home parts of
-- those between
unfoldable pub around : Layout → List Point → ℕ → ℕ → List Point
around layout picks first last =
    let between = range_with_len (first + 1) (last - first - 1) in
    (home layout first ∷ far layout first ∷ flat_map (far_part layout picks) between)
    ++ (far layout last ∷ home layout last ∷ flat_map (home_part layout picks) (reverse between))

-- around the gaps, where there is more than one aisle
unfoldable pub around_gaps : Layout → List Point → List ℕ → List Point
around_gaps layout picks [] = []
around_gaps layout picks (first ∷ []) = return_stops layout picks first
around_gaps layout picks (first ∷ next ∷ aisles) = around layout picks first (last_of next aisles)

-- the stops of a rule between the depot and the depot
abbrev pub stops_between : Layout → List Point → Rule → List Point
stops_between layout picks Return = in_turn layout picks (picked_aisles layout picks)
stops_between layout picks SShape = through layout picks false (picked_aisles layout picks)
stops_between layout picks LargestGap = around_gaps layout picks (picked_aisles layout picks)

-- the stops of a rule after the depot
abbrev pub stops_of : Layout → List Point → Rule → List Point
stops_of layout picks rule = stops_between layout picks rule ++ depot_point layout ∷ []

-- the walk of a rule: from the depot straight to each of its stops
abbrev pub walk_of_rule : Layout → List Point → Rule → List Point
walk_of_rule layout picks rule = depot_point layout ∷ past (depot_point layout) (stops_of layout picks rule)
