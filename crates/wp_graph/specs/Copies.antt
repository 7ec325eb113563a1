-- How often a walk goes along each piece of the aisles and of the cross aisles.
use Rattle.std.specs.Prelude.{ℕ, suc, ◌+◌, ◌*◌, ◌==◌, ◌&&◌, List, [], ◌∷◌, min, if◌then◌else◌}
use Rattle.wp_model.specs.declared.point.Point.{Point}
use Rattle.wp_model.specs.Sums.{sum_below}
use Rattle.wp_model.specs.Warehouse.{Layout, back_end}
use Rattle.wp_graph.specs.Sites.{Site, last_place}

-- how often each piece is walked: from a place of an aisle to the next place behind it, and from an aisle to the next
-- one along the cross aisle at the back and at the front
pub record Copies : Type 0 where
  pub deep : ℕ → ℕ → ℕ
  pub behind : ℕ → ℕ
  pub front : ℕ → ℕ

-- 1 for a move between a place of an aisle and the next place behind it, 0 for any other move
abbrev pub along_aisle : ℕ → ℕ → Point → Point → ℕ
along_aisle aisle place from to = if (from.aisle == aisle) && ((to.aisle == aisle) && (min from.slot to.slot == place))
    then 1 else 0

-- 1 for a move between an aisle and the next one, both at this place, 0 for any other move
abbrev pub along_cross : ℕ → ℕ → Point → Point → ℕ
along_cross place aisle from to = if (from.slot == place) && ((to.slot == place) && (min from.aisle to.aisle == aisle))
    then 1 else 0

-- the sum over the moves of a walk
abbrev pub sum_moves : (Point → Point → ℕ) → List Point → ℕ
sum_moves each [] = 0
sum_moves each (from ∷ []) = 0
sum_moves each (from ∷ to ∷ points) = each from to + sum_moves each (to ∷ points)

-- how often a walk goes along each piece
abbrev pub copies_of : Layout → List Point → Copies
copies_of layout points = record {
  deep = λ aisle place. sum_moves (along_aisle aisle place) points;
  behind = λ aisle. sum_moves (along_cross (back_end layout) aisle) points;
  front = λ aisle. sum_moves (along_cross 0 aisle) points;
}

-- the length of what is walked of an aisle
abbrev pub aisle_walked : Site → Copies → ℕ → ℕ
aisle_walked site copies aisle = sum_below (last_place site) (λ place. copies.deep aisle place * site.step place)

-- the length of what is walked from an aisle to the next
abbrev pub cross_walked : Site → Copies → ℕ → ℕ
cross_walked site copies aisle = (copies.behind aisle + copies.front aisle) * site.spacing aisle

-- the length of all that is walked
abbrev pub all_walked : Site → Copies → ℕ
all_walked site copies = sum_below site.aisles
    (λ a. aisle_walked site copies (suc a) + cross_walked site copies (suc a))
