-- The length of a closed walk is a multiple of the step: a move that leads away from the first aisle and the front adds as much to how
-- far its point lies from there as it is long, and so does the way back.
use Rattle.std.proofs.Common.{◌≡◌, ◌≢◌, ℕ, zero, suc, ◌+◌, ◌-◌, ◌*◌, ◌<◌, ◌≤◌, List, [], ◌∷◌, Some, None, length, slice_get, arith, refl, sym, ap}
use Rattle.std.proofs.Common.{◌∙◌, subst, inl, inr, ◌⊎◌, ⊎_elim, All}
use Rattle.std.specs.Int.{◌∣◌}
use Rattle.std.specs.Prelude.{slice_index}
use Rattle.std.proofs.Math.Nat.{dvd-add, dvd-add_iff_left, mul-dvd-mul_left}
use Rattle.std.proofs.lemmas.Nat.Gcd.{dvd-zero}
use Rattle.std.proofs.lemmas.Bool.{cases_eq}
use Rattle.std.proofs.lemmas.Bool.Decides.{nat_tests}
use Rattle.std.proofs.lemmas.Option.{same_Some}
use Rattle.wp_model.specs.Sums.{sum_below}
use Rattle.wp_model.specs.declared.point.Point.{Point}
use Rattle.wp_model.specs.Warehouse.{Layout, IsDeeper, IsFurther, Step, back_end, depot_point, spacing_after, step_length}
use Rattle.wp_model.specs.Warehouse.Step.{deeper, nearer, further, back}
use Rattle.wp_model.specs.Tours.{IsClosedWalk, IsWalk}
use Rattle.wp_cuts.specs.Steps.{ClosedWalksAreMultiples, DividesMoves}

-- how far a point lies from the front of the first aisle, along the front and down its own
abbrev pub away : Layout → Point → ℕ
away layout point = sum_below point.aisle (spacing_after layout) + sum_below point.slot (step_length layout)

-- what divides the length of each move divides that of a step within an aisle
is_clearance : (layout : Layout) (slot : ℕ) → (slot ≡ 0) ⊎ (slot ≡ layout.slots) → step_length layout slot ≡ layout.clearance
is_clearance layout slot either = grind (arith, nat_tests)

is_pitch : (layout : Layout) (slot : ℕ) → (slot ≡ 0 → ⊥) → (slot ≡ layout.slots → ⊥) → step_length layout slot ≡ layout.pitch
is_pitch layout slot some other = grind (arith, nat_tests)

divides_step : (layout : Layout) (g slot : ℕ) → DividesMoves layout g → slot ≤ layout.slots → g ∣ step_length layout slot
divides_step layout g slot all within =
    ⊎_elim
    (λ (e : slot ≡ 0). subst (λ (n : ℕ). g ∣ n) (sym (is_clearance layout slot (inl e))) all.clearance)
    (λ (some : slot ≢ 0). ⊎_elim
    (λ (e : slot ≡ layout.slots). subst (λ (n : ℕ). g ∣ n) (sym (is_clearance layout slot (inr e))) all.clearance)
    (λ (ne : slot ≢ layout.slots). subst (λ (n : ℕ). g ∣ n) (sym (is_pitch layout slot some ne)) (all.pitch (omega (arith, some, ne, within))))
    (cases_eq slot layout.slots))
    (cases_eq slot 0)

-- and the length from an aisle to the next
divides_entry : (g : ℕ) (xs : List ℕ) (k : ℕ) → All (λ x. g ∣ x) xs → g ∣ slice_index xs k
divides_entry g [] k each = dvd-zero g
divides_entry g (x ∷ xs) zero each = each 0 0 (omega arith)
divides_entry g (x ∷ xs) (suc k) each = divides_entry g xs k (λ i d low. each (suc i) d (omega (arith, low)))

divides_spacing : (layout : Layout) (g aisle : ℕ) → DividesMoves layout g → g ∣ spacing_after layout aisle
divides_spacing layout g zero all = dvd-zero g
divides_spacing layout g (suc aisle) all = divides_entry g layout.spacings aisle all.spacings

-- what divides each term divides the sum
divides_sum : (g n : ℕ) (f : ℕ → ℕ) → ((k : ℕ) → k < n → g ∣ f k) → g ∣ sum_below n f
divides_sum g zero f each = dvd-zero g
divides_sum g (suc n) f each = dvd-add g (divides_sum g n f (λ k low. each k (omega arith))) (each n (omega arith))

divides_away : (layout : Layout) (g : ℕ) (point : Point) → DividesMoves layout g → point.slot ≤ back_end layout → g ∣ away layout point
divides_away layout g point all within = dvd-add g
    (divides_sum g point.aisle (spacing_after layout) (λ k low. divides_spacing layout g k all))
    (divides_sum g point.slot (step_length layout) (λ k low. divides_step layout g k all (omega arith)))

-- a move leads so much further away as it is long
deeper_away : (layout : Layout) (p q : Point) (t : ℕ) → IsDeeper layout p q t → away layout q ≡ away layout p + t
deeper_away layout p q t is =
    let next : q.slot ≡ suc p.slot = omega (arith, is.slot) in
    let slots = ap (λ (n : ℕ). sum_below n (step_length layout)) next in
    let aisles = ap (λ (n : ℕ). sum_below n (spacing_after layout)) is.aisle in
    omega (arith, slots, aisles, is.length_is)

further_away : (layout : Layout) (p q : Point) (t : ℕ) → IsFurther layout p q t → away layout q ≡ away layout p + t
further_away layout p q t is =
    let next : q.aisle ≡ suc p.aisle = omega (arith, is.aisle) in
    let slots = ap (λ (n : ℕ). sum_below n (step_length layout)) is.slot in
    let aisles = ap (λ (n : ℕ). sum_below n (spacing_after layout)) next in
    omega (arith, slots, aisles, is.length_is)

step_away : (layout : Layout) (p q : Point) (t : ℕ) → Step layout p q t → (away layout q ≡ away layout p + t) ⊎ (away layout p ≡ away layout q + t)
step_away layout p q t (deeper is) = inl (deeper_away layout p q t is)
step_away layout p q t (nearer is) = inr (deeper_away layout q p t is)
step_away layout p q t (further is) = inl (further_away layout p q t is)
step_away layout p q t (back is) = inr (further_away layout q p t is)

-- twice what divides a number divides twice the number
twice_divides : (g n : ℕ) → g ∣ n → 2 * g ∣ n + n
twice_divides g n divides = let both : 2 * n ≡ n + n = omega arith in subst (λ (k : ℕ). 2 * g ∣ k) both (mul-dvd-mul_left g 2 divides)

-- the length of a move is divided as both its ends are
divides_move : (g a b t : ℕ) → g ∣ a → g ∣ b → b ≡ a + t → g ∣ t
divides_move g a b t here there is =
    let whole : b ≡ t + a = omega (arith, is) in (dvd-add_iff_left g here).1 (subst (λ (n : ℕ). g ∣ n) whole there)

-- the last point of a walk
abbrev pub last_of : Point → List Point → Point
last_of point [] = point
last_of point (next ∷ points) = last_of next points

last_is : (p : Point) (points : List Point) → slice_get (p ∷ points) (length (p ∷ points) - 1) ≡ Some (last_of p points)
last_is p [] = refl
last_is p (q ∷ points) =
    let back : length (p ∷ q ∷ points) - 1 ≡ suc (length (q ∷ points) - 1) = omega arith in
    ap (λ i. slice_get (p ∷ q ∷ points) i) back ∙ last_is q points

-- the length of a walk, and how far away it begins and ends
walk_away : (layout : Layout) (g : ℕ) (from : Point) (points : List Point) (total : ℕ) → DividesMoves layout g
    → g ∣ away layout from → IsWalk layout (from ∷ points) total → 2 * g ∣ total + (away layout from + away layout (last_of from points))
walk_away layout g from [] total all begins walk =
    let sum : away layout from + away layout from ≡ total + (away layout from + away layout from) = omega (arith, walk) in
    subst (λ (n : ℕ). 2 * g ∣ n) sum (twice_divides g (away layout from) begins)
walk_away layout g from (to ∷ points) total all begins (step, rest, move, walk, sum) =
    let here = divides_away layout g to all move.to_point.slot in
    let onward = walk_away layout g to points rest all here walk in
    let last = away layout (last_of to points) in
    ⊎_elim
    (λ (e : away layout to ≡ away layout from + step).
    let same : rest + (away layout to + last) ≡ total + (away layout from + last) = omega (arith, e, sum) in
    subst (λ (n : ℕ). 2 * g ∣ n) same onward)
    (λ (e : away layout from ≡ away layout to + step).
    let more = dvd-add (2 * g) onward (twice_divides g step (divides_move g (away layout to) (away layout from) step here begins e)) in
    let same : rest + (away layout to + last) + (step + step) ≡ total + (away layout from + last) = omega (arith, e, sum) in
    subst (λ (n : ℕ). 2 * g ∣ n) same more)
    (step_away layout from to step move.step)

depot_within : (layout : Layout) → (depot_point layout).slot ≤ back_end layout
depot_within layout = grind (arith)

from_depot : (layout : Layout) (g : ℕ) (points : List Point) (total : ℕ) → DividesMoves layout g
    → IsClosedWalk layout (depot_point layout ∷ points) total → 2 * g ∣ total
from_depot layout g points total all closed =
    let depot = depot_point layout in
    let begins = divides_away layout g depot all (depot_within layout) in
    let round = walk_away layout g depot points total all begins closed.goes in
    let ends : last_of depot points ≡ depot = same_Some _ _ (sym (last_is depot points) ∙ closed.ends) in
    let back = subst (λ (p : Point). 2 * g ∣ total + (away layout depot + away layout p)) ends round in
    (dvd-add_iff_left (2 * g) (twice_divides g (away layout depot) begins)).1 back

closed_divided : (layout : Layout) (g : ℕ) (points : List Point) (total : ℕ) → DividesMoves layout g
    → IsClosedWalk layout points total → 2 * g ∣ total
closed_divided layout g [] total all closed = absurd (none closed.begins)
  where
    none : None ≡ Some (depot_point layout) → ⊥
    none e = cc
closed_divided layout g (p ∷ rest) total all closed =
    let first : p ≡ depot_point layout = same_Some _ _ closed.begins in
    from_depot layout g rest total all (subst (λ (q : Point). IsClosedWalk layout (q ∷ rest) total) first closed)

-- the length of each closed walk is a multiple of the layout's step
pub closed_walks_are_multiples : ClosedWalksAreMultiples
closed_walks_are_multiples = λ layout step points total is closed.
    subst (λ (s : ℕ). s ∣ total) (sym is.twice) (closed_divided layout is.half points total is.divides closed)
