-- The moves of a walk, and a walk with one more move.
use Rattle.std.proofs.Common.{◌≡◌, ℕ, zero, suc, ◌+◌, ◌-◌, ◌<◌, List, [], ◌∷◌, length, get_or, take, arith, refl, add-one}
use Rattle.wp_model.specs.declared.point.Point.{Point}
use Rattle.wp_model.specs.Warehouse.{Layout, IsMove}
use Rattle.wp_model.specs.Tours.{IsWalk}

-- neighbours on a walk are a move
pub move_at : (layout : Layout) (points : List Point) (total i : ℕ) (default : Point) →
    IsWalk layout points total → suc i < length points → (step : ℕ) × IsMove layout (get_or points i default) (get_or points (suc i) default) step
move_at layout [] total i default walk within = absurd (omega arith)
move_at layout (a ∷ []) total i default walk within = absurd (omega arith)
move_at layout (a ∷ b ∷ points) total zero default walk within = (walk.0, walk.2)
move_at layout (a ∷ b ∷ points) total (suc i) default walk within = move_at layout (b ∷ points) walk.1 i default walk.3 (omega arith)

-- the move that ends at a place of a walk
pub move_to : (layout : Layout) (points : List Point) (total i : ℕ) (default : Point) →
    IsWalk layout points total → 0 < i → i < length points → (step : ℕ) × IsMove layout (get_or points (i - 1) default) (get_or points i default) step
move_to layout points total zero default walk some within = absurd (omega arith)
move_to layout points total (suc i) default walk some within =
    let before : suc i - 1 ≡ i = omega arith in rw before (move_at layout points total i default walk within)

-- a walk goes on by a move
pub walk_next : (layout : Layout) (points : List Point) (total step i : ℕ) (default : Point) → suc i < length points →
    IsWalk layout (take (suc i) points) total → IsMove layout (get_or points i default) (get_or points (suc i) default) step
    → IsWalk layout (take (suc (suc i)) points) (total + step)
walk_next layout [] total step i default within walk move = absurd (omega arith)
walk_next layout (a ∷ []) total step i default within walk move = absurd (omega arith)
walk_next layout (a ∷ b ∷ points) total step zero default within walk move = (step, 0, move, refl, omega arith)
walk_next layout (a ∷ b ∷ points) total step (suc i) default within walk move =
    let rest = walk_next layout (b ∷ points) walk.1 step i default (omega arith) walk.3 move in (walk.0, walk.1 + step, walk.2, rest, omega arith)

-- the same at the place where the move ends
pub walk_more : (layout : Layout) (points : List Point) (total step i : ℕ) (default : Point) → 0 < i → i < length points →
    IsWalk layout (take i points) total → IsMove layout (get_or points (i - 1) default) (get_or points i default) step
    → IsWalk layout (take (i + 1) points) (total + step)
walk_more layout points total step zero default some within walk move = absurd (omega arith)
walk_more layout points total step (suc i) default some within walk move =
    let before : suc i - 1 ≡ i = omega arith in rw add-one (walk_next layout points total step i default within walk (rw before at move))
