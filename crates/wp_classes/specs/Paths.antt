-- Paths: a point at which they begin, and the points after it.
use Rattle.std.specs.Prelude.{◌≡◌, ℕ, zero, suc, ◌+◌, ◌-◌, List, [], ◌∷◌, ◌++◌, ◌⊎◌}
use Rattle.wp_model.specs.declared.point.Point.{Point}
use Rattle.wp_model.specs.Warehouse.{Layout, IsMove, back_end}

-- from a point by these further points to another, with this length
abbrev pub Path : Layout → Point → List Point → Point → ℕ → Type 0
Path layout from [] to total = (from ≡ to) × (total ≡ 0)
Path layout from (next ∷ points) to total
    = (step : ℕ) × (rest : ℕ) × (IsMove layout from next step) × (Path layout next points to rest)
    × (total ≡ step + rest)

-- a point lies on a path that begins here and has these further points
abbrev pub On : Point → List Point → Point → Type 0
On from [] point = from ≡ point
On from (next ∷ points) point = (from ≡ point) ⊎ On next points point

-- a place of an aisle
abbrev pub at : ℕ → ℕ → Point
at aisle place = record { aisle = aisle; slot = place }

-- so many places on in an aisle, away from the front
abbrev pub ahead : ℕ → ℕ → ℕ → List Point
ahead aisle place zero = []
ahead aisle place (suc n) = at aisle (suc place) ∷ ahead aisle (suc place) n

-- so many places back, towards the front, to this place
abbrev pub behind : ℕ → ℕ → ℕ → List Point
behind aisle place zero = []
behind aisle place (suc n) = at aisle (place + n) ∷ behind aisle place n

-- from the front end to the back end
abbrev pub pass_up : Layout → ℕ → List Point
pass_up layout aisle = ahead aisle 0 (back_end layout)

-- from the back end to the front end
abbrev pub pass_down : Layout → ℕ → List Point
pass_down layout aisle = behind aisle 0 (back_end layout)

-- from the back end to a place, and back
abbrev pub from_back : Layout → ℕ → ℕ → List Point
from_back layout aisle place = behind aisle place (back_end layout - place)
    ++ ahead aisle place (back_end layout - place)

-- from the front end to a place, and back
abbrev pub from_front : ℕ → ℕ → List Point
from_front aisle place = ahead aisle 0 place ++ behind aisle 0 place

-- the point of a path after so many moves
abbrev pub after_moves : Point → List Point → ℕ → Point
after_moves from points zero = from
after_moves from [] (suc n) = from
after_moves from (next ∷ points) (suc n) = after_moves next points n
