-- Places along an aisle, one more at a time.
use Rattle.std.proofs.Common.{◌≡◌, ℕ, zero, suc, ◌+◌, ◌-◌, ◌<◌, List, [], ◌∷◌, ◌++◌, arith, ◌∙◌, ap, append_assoc}
use Rattle.wp_model.specs.declared.point.Point.{Point}
use Rattle.wp_classes.specs.Paths.{ahead, at, behind}

-- so many places on in an aisle, with the next one behind them, are one more
ahead_last : (aisle place n : ℕ) → ahead aisle place n ++ at aisle (place + n + 1) ∷ [] ≡ ahead aisle place (n + 1)
ahead_last aisle place zero = ap (λ s. at aisle s ∷ []) (omega arith)
ahead_last aisle place (suc n) =
    let more : suc n + 1 ≡ suc (n + 1) = omega arith in
    let last : place + suc n + 1 ≡ suc place + n + 1 = omega arith in
    rw (more, last) (ap (λ ps. at aisle (suc place) ∷ ps) (ahead_last aisle (suc place) n))

-- some points and then so many places on in an aisle, with the next one behind them, are one place more
pub ahead_more : (aisle place n : ℕ) (points : List Point)
    → (points ++ ahead aisle place n) ++ at aisle (place + n + 1) ∷ [] ≡ points ++ ahead aisle place (n + 1)
ahead_more aisle place n points =
    append_assoc points (ahead aisle place n) (at aisle (place + n + 1) ∷ []) ∙ ap (λ ps. points ++ ps) (ahead_last aisle place n)

-- the points so far with the next place back, and the places then left, are still all points
pub behind_more : (aisle place count i : ℕ) (points all : List Point) → i < count → points ++ behind aisle place (count - i) ≡ all →
    (points ++ at aisle (place + (count - 1 - i)) ∷ []) ++ behind aisle place (count - (i + 1)) ≡ all
behind_more aisle place count i points all within so_far =
    let next : count - i ≡ suc (count - (i + 1)) = omega arith in
    let here : count - 1 - i ≡ count - (i + 1) = omega arith in
    rw here (append_assoc points (at aisle (place + (count - (i + 1))) ∷ []) (behind aisle place (count - (i + 1))) ∙ (rw next at so_far))
