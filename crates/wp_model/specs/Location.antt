-- Locations as tables and commands write them.
use Rattle.std.specs.Prelude.{ℕ, ◌==◌, ◌&&◌, ◌||◌, nat_lt, Bool, true, false, List, [], ◌∷◌, Option, Some, None}
use Rattle.std.specs.Prelude.{option_map, option_and_then, if◌then◌else◌}
use Rattle.std.specs.List.{before_first, after_first}
use Rattle.std.specs.Ordering.{nat_cmp, ordering_then}
use Rattle.std.specs.declared.cmp.Ordering.{Ordering}
use Rattle.std.specs.declared.cmp.Ordering.TheVariants.{Less, Equal, Greater}
use Rattle.wp_model.specs.Number.{number_of}
use Rattle.wp_model.specs.declared.location.Side.{Side}
use Rattle.wp_model.specs.declared.location.Side.TheVariants.{L, R}
use Rattle.wp_model.specs.declared.location.Location.{Location}

-- the dash between the parts of a location
abbrev pub is_dash : ℕ → Bool
is_dash b = b == 45

-- `L` or `R`
abbrev pub side_of : List ℕ → Option Side
side_of [] = None
side_of (b ∷ []) = if b == 76 then Some L else if b == 82 then Some R else None
side_of (b ∷ c ∷ rest) = None

-- the location whose parts these texts write
abbrev pub location_from : List ℕ → List ℕ → List ℕ → Option Location
location_from aisle slot side =
    option_and_then (λ a. option_and_then (λ s. option_map (λ d. record { aisle = a; slot = s; side = d })
    (side_of side)) (number_of 5 slot))
    (number_of 5 aisle)

-- the location that a text writes: an aisle, a dash, a slot, a dash and a side
abbrev pub location_of : List ℕ → Option Location
location_of text =
    let rest = after_first is_dash text in
    location_from (before_first is_dash text) (before_first is_dash rest) (after_first is_dash rest)

-- one side before the other: L comes first
abbrev pub side_before : Side → Side → Bool
side_before L L = false
side_before L R = true
side_before R L = false
side_before R R = false

-- one location before another: by aisle, slot and side
abbrev pub is_before : Location → Location → Bool
is_before a b = nat_lt a.aisle b.aisle ||
    ((a.aisle == b.aisle) && (nat_lt a.slot b.slot || ((a.slot == b.slot) && side_before a.side b.side)))

-- the order of two sides
abbrev pub side_cmp : Side → Side → Ordering
side_cmp L L = Equal
side_cmp L R = Less
side_cmp R L = Greater
side_cmp R R = Equal

-- the order of two locations
abbrev pub location_cmp : Location → Location → Ordering
location_cmp a b = ordering_then (nat_cmp a.aisle b.aisle)
    (ordering_then (nat_cmp a.slot b.slot) (side_cmp a.side b.side))
