-- Parts of a tour that pass all that is needed so far, and rounds that pass all.
use Rattle.std.specs.Prelude.{◌≡◌, ℕ, ◌+◌, ◌≤◌, List, ◌∷◌, ◌⊎◌}
use Rattle.wp_model.specs.declared.point.Point.{Point}
use Rattle.wp_model.specs.Warehouse.{Layout, back_end, depot_point}
use Rattle.wp_graph.specs.Members.{Among}
use Rattle.wp_classes.specs.declared.class.Class.{Class}
use Rattle.wp_classes.specs.declared.class.Class.TheVariants.{UU1, E01, ZE1, EE1, EE2, Z00, Z01}
use Rattle.wp_classes.specs.Parts.{Part}
use Rattle.wp_classes.specs.Paths.{On, Path, at}

-- the paths of a part run between the ends of an aisle, as its class says, with this length together
abbrev pub Shape : Layout → ℕ → Class → Part → ℕ → Type 0
Shape layout aisle UU1 part total = Path layout (at aisle (back_end layout)) part.first (at aisle 0) total
Shape layout aisle E01 part total = Path layout (at aisle (back_end layout)) part.first
    (at aisle (back_end layout)) total
Shape layout aisle ZE1 part total = Path layout (at aisle 0) part.first (at aisle 0) total
Shape layout aisle EE1 part total =
    (s : ℕ) × (r : ℕ) × Path layout (at aisle (back_end layout)) part.first (at aisle 0) s
    × Path layout (at aisle 0) part.second (at aisle (back_end layout)) r × (total ≡ s + r)
Shape layout aisle EE2 part total =
    (s : ℕ) × (r : ℕ) × Path layout (at aisle (back_end layout)) part.first (at aisle (back_end layout)) s
    × Path layout (at aisle 0) part.second (at aisle 0) r × (total ≡ s + r)
Shape layout aisle Z00 part total = total ≡ 0
Shape layout aisle Z01 part total = Path layout part.start part.first part.start total

-- a point lies on a path of the part
abbrev pub OnPart : Layout → ℕ → Class → Part → Point → Type 0
OnPart layout aisle UU1 part p = On (at aisle (back_end layout)) part.first p
OnPart layout aisle E01 part p = On (at aisle (back_end layout)) part.first p
OnPart layout aisle ZE1 part p = On (at aisle 0) part.first p
OnPart layout aisle EE1 part p = On (at aisle (back_end layout)) part.first p ⊎ On (at aisle 0) part.second p
OnPart layout aisle EE2 part p = On (at aisle (back_end layout)) part.first p ⊎ On (at aisle 0) part.second p
OnPart layout aisle Z00 part p = ⊥
OnPart layout aisle Z01 part p = On part.start part.first p

-- a tour must pass this point: the depot, or a pick
abbrev pub IsNeeded : Layout → List Point → Point → Type 0
IsNeeded layout picks p = Among (depot_point layout ∷ picks) p

-- the part of a tour up to an aisle, with ends at an aisle
pub record IsPart (layout : Layout) (picks : List Point) (ends upto : ℕ) (class : Class) (part : Part)
    (total : ℕ) : Type 0 where
  pub shape : Shape layout ends class part total
  pub serves : (p : Point) → IsNeeded layout picks p → p.aisle ≤ upto → OnPart layout ends class part p

-- a closed path past all that is needed
pub record IsRound (layout : Layout) (picks : List Point) (start : Point) (points : List Point)
    (total : ℕ) : Type 0 where
  pub path : Path layout start points start total
  pub serves : (p : Point) → IsNeeded layout picks p → On start points p
