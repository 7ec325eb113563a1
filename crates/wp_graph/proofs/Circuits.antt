-- How often a closed walk goes along the pieces of a cut: an even number of times.
use Rattle.std.proofs.Common.{◌≡◌, ℕ, suc, ◌+◌, ◌%◌, ◌<◌, ◌≤◌, ◌==◌, ◌&&◌, nat_le, List, [], ◌∷◌, if◌then◌else◌, arith, refl, ap, ⊎_elim}
use Rattle.std.proofs.lemmas.Bool.Decides.{nat_tests}
use Rattle.wp_model.specs.declared.point.Point.{Point}
use Rattle.wp_model.specs.Warehouse.{Layout, IsMove, Step, back_end}
use Rattle.wp_model.specs.Warehouse.Step.{deeper, nearer, further, back}
use Rattle.wp_model.specs.Tours.{IsWalk}
use Rattle.wp_graph.specs.Sites.{site_of}
use Rattle.wp_graph.specs.Copies.{along_aisle, along_cross, copies_of, sum_moves}
use Rattle.wp_graph.specs.TourCopies.{AreEven}

-- the last point of a walk
abbrev pub last_point : Point → List Point → Point
last_point point [] = point
last_point point (next ∷ points) = last_point next points

-- a walk changes the side of a cut an even number of times, if it ends on the side where it begins
pub changes_even : (layout : Layout) (each : Point → Point → ℕ) (side : Point → ℕ) (from : Point) (points : List Point) (total : ℕ)
    → ((p q : Point) (step : ℕ) → IsMove layout p q step → (each p q + side p + side q) % 2 ≡ 0) → IsWalk layout (from ∷ points) total →
    (sum_moves each (from ∷ points) + side from + side (last_point from points)) % 2 ≡ 0
changes_even layout each side from [] total changes walk = omega arith
changes_even layout each side from (to ∷ points) total changes (step, rest, move, walk, sum) =
    omega (arith, changes from to step move, changes_even layout each side to points rest changes walk)

-- the side of a point of the cut behind an aisle's first so many places: 1 within, 0 without
abbrev pub within_aisle : ℕ → ℕ → Point → ℕ
within_aisle aisle place point = if (point.aisle == aisle) && nat_le point.slot place then 1 else 0

-- the side of a point of the cut behind an aisle: 1 up to the aisle, 0 beyond it
abbrev pub within_first : ℕ → Point → ℕ
within_first aisle point = if nat_le point.aisle aisle then 1 else 0

-- a move changes the side of the cut behind an aisle exactly where it goes along one of the two cross aisles there
across_deeper : (b a : ℕ) (p q : Point) → 0 < b → q.aisle ≡ p.aisle → q.slot ≡ p.slot + 1
    → (along_cross b a p q + along_cross 0 a p q + within_first a p + within_first a q) % 2 ≡ 0
across_deeper b a p q some aisle slot = grind (arith, nat_tests)

across_nearer : (b a : ℕ) (p q : Point) → 0 < b → p.aisle ≡ q.aisle → p.slot ≡ q.slot + 1
    → (along_cross b a p q + along_cross 0 a p q + within_first a p + within_first a q) % 2 ≡ 0
across_nearer b a p q some aisle slot = grind (arith, nat_tests)

across_front : (b a : ℕ) (p q : Point) → 0 < b → p.slot ≡ 0 → q.aisle ≡ p.aisle + 1 → q.slot ≡ p.slot
    → (along_cross b a p q + along_cross 0 a p q + within_first a p + within_first a q) % 2 ≡ 0
across_front b a p q some end aisle slot = grind (arith, nat_tests)

across_behind : (b a : ℕ) (p q : Point) → 0 < b → p.slot ≡ b → q.aisle ≡ p.aisle + 1 → q.slot ≡ p.slot
    → (along_cross b a p q + along_cross 0 a p q + within_first a p + within_first a q) % 2 ≡ 0
across_behind b a p q some end aisle slot = grind (arith, nat_tests)

across_front_back : (b a : ℕ) (p q : Point) → 0 < b → q.slot ≡ 0 → p.aisle ≡ q.aisle + 1 → p.slot ≡ q.slot
    → (along_cross b a p q + along_cross 0 a p q + within_first a p + within_first a q) % 2 ≡ 0
across_front_back b a p q some end aisle slot = grind (arith, nat_tests)

across_behind_back : (b a : ℕ) (p q : Point) → 0 < b → q.slot ≡ b → p.aisle ≡ q.aisle + 1 → p.slot ≡ q.slot
    → (along_cross b a p q + along_cross 0 a p q + within_first a p + within_first a q) % 2 ≡ 0
across_behind_back b a p q some end aisle slot = grind (arith, nat_tests)

across_step : (layout : Layout) (a : ℕ) (p q : Point) (t : ℕ) → Step layout p q t
    → (along_cross (back_end layout) a p q + along_cross 0 a p q + within_first a p + within_first a q) % 2 ≡ 0
across_step layout a p q t (deeper is) = across_deeper (back_end layout) a p q (omega arith) is.aisle is.slot
across_step layout a p q t (nearer is) = across_nearer (back_end layout) a p q (omega arith) is.aisle is.slot
across_step layout a p q t (further is) = ⊎_elim (λ e. across_front (back_end layout) a p q (omega arith) e is.aisle is.slot)
    (λ e. across_behind (back_end layout) a p q (omega arith) e is.aisle is.slot) is.end
across_step layout a p q t (back is) = ⊎_elim (λ e. across_front_back (back_end layout) a p q (omega arith) e is.aisle is.slot)
    (λ e. across_behind_back (back_end layout) a p q (omega arith) e is.aisle is.slot) is.end

-- a move changes the side of the cut around the first places of an aisle exactly where it goes along the aisle behind
-- them or along the front to or from the aisle
through_deeper : (b a s : ℕ) (p q : Point) → s < b → q.aisle ≡ p.aisle → q.slot ≡ p.slot + 1
    → (along_aisle (suc a) s p q + along_cross 0 a p q + along_cross 0 (suc a) p q + within_aisle (suc a) s p + within_aisle (suc a) s q) % 2 ≡ 0
through_deeper b a s p q some aisle slot = grind (arith, nat_tests)

through_nearer : (b a s : ℕ) (p q : Point) → s < b → p.aisle ≡ q.aisle → p.slot ≡ q.slot + 1
    → (along_aisle (suc a) s p q + along_cross 0 a p q + along_cross 0 (suc a) p q + within_aisle (suc a) s p + within_aisle (suc a) s q) % 2 ≡ 0
through_nearer b a s p q some aisle slot = grind (arith, nat_tests)

through_front : (b a s : ℕ) (p q : Point) → s < b → p.slot ≡ 0 → q.aisle ≡ p.aisle + 1 → q.slot ≡ p.slot
    → (along_aisle (suc a) s p q + along_cross 0 a p q + along_cross 0 (suc a) p q + within_aisle (suc a) s p + within_aisle (suc a) s q) % 2 ≡ 0
through_front b a s p q some end aisle slot = grind (arith, nat_tests)

through_behind : (b a s : ℕ) (p q : Point) → s < b → p.slot ≡ b → q.aisle ≡ p.aisle + 1 → q.slot ≡ p.slot
    → (along_aisle (suc a) s p q + along_cross 0 a p q + along_cross 0 (suc a) p q + within_aisle (suc a) s p + within_aisle (suc a) s q) % 2 ≡ 0
through_behind b a s p q some end aisle slot = grind (arith, nat_tests)

through_front_back : (b a s : ℕ) (p q : Point) → s < b → q.slot ≡ 0 → p.aisle ≡ q.aisle + 1 → p.slot ≡ q.slot
    → (along_aisle (suc a) s p q + along_cross 0 a p q + along_cross 0 (suc a) p q + within_aisle (suc a) s p + within_aisle (suc a) s q) % 2 ≡ 0
through_front_back b a s p q some end aisle slot = grind (arith, nat_tests)

through_behind_back : (b a s : ℕ) (p q : Point) → s < b → q.slot ≡ b → p.aisle ≡ q.aisle + 1 → p.slot ≡ q.slot
    → (along_aisle (suc a) s p q + along_cross 0 a p q + along_cross 0 (suc a) p q + within_aisle (suc a) s p + within_aisle (suc a) s q) % 2 ≡ 0
through_behind_back b a s p q some end aisle slot = grind (arith, nat_tests)

through_step : (layout : Layout) (a s : ℕ) (p q : Point) (t : ℕ) → s < back_end layout → Step layout p q t
    → (along_aisle (suc a) s p q + along_cross 0 a p q + along_cross 0 (suc a) p q + within_aisle (suc a) s p + within_aisle (suc a) s q) % 2 ≡ 0
through_step layout a s p q t low (deeper is) = through_deeper (back_end layout) a s p q low is.aisle is.slot
through_step layout a s p q t low (nearer is) = through_nearer (back_end layout) a s p q low is.aisle is.slot
through_step layout a s p q t low (further is) = ⊎_elim (λ e. through_front (back_end layout) a s p q low e is.aisle is.slot)
    (λ e. through_behind (back_end layout) a s p q low e is.aisle is.slot) is.end
through_step layout a s p q t low (back is) = ⊎_elim (λ e. through_front_back (back_end layout) a s p q low e is.aisle is.slot)
    (λ e. through_behind_back (back_end layout) a s p q low e is.aisle is.slot) is.end

-- two counts together, summed over the moves of a walk, come to both sums
pub sum_moves-add : (f g : Point → Point → ℕ) (points : List Point) → sum_moves (λ p q. f p q + g p q) points ≡ sum_moves f points + sum_moves g points
sum_moves-add f g [] = refl
sum_moves-add f g (p ∷ []) = refl
sum_moves-add f g (p ∷ q ∷ points) = omega (arith, sum_moves-add f g (q ∷ points))

-- a sum of nothing on any move
pub sum_moves-none : (layout : Layout) (f : Point → Point → ℕ) (points : List Point) (total : ℕ)
    → ((p q : Point) (step : ℕ) → IsMove layout p q step → f p q ≡ 0) → IsWalk layout points total → sum_moves f points ≡ 0
sum_moves-none layout f [] total none walk = refl
sum_moves-none layout f (p ∷ []) total none walk = refl
sum_moves-none layout f (p ∷ q ∷ points) total none (step, rest, move, walk, sum) =
    omega (arith, none p q step move, sum_moves-none layout f (q ∷ points) rest none walk)

-- no move goes along a cross aisle before the first aisle or behind the last
before_first : (b : ℕ) (p q : Point) → 1 ≤ p.aisle → 1 ≤ q.aisle → along_cross b 0 p q ≡ 0
before_first b p q low low' = grind (arith, nat_tests)

behind_deeper : (b n : ℕ) (p q : Point) → q.slot ≡ p.slot + 1 → along_cross b n p q ≡ 0
behind_deeper b n p q slot = grind (arith, nat_tests)

behind_nearer : (b n : ℕ) (p q : Point) → p.slot ≡ q.slot + 1 → along_cross b n p q ≡ 0
behind_nearer b n p q slot = grind (arith, nat_tests)

behind_last : (b n : ℕ) (p q : Point) → q.aisle ≤ n → q.aisle ≡ p.aisle + 1 → along_cross b n p q ≡ 0
behind_last b n p q high aisle = grind (arith, nat_tests)

behind_last_back : (b n : ℕ) (p q : Point) → p.aisle ≤ n → p.aisle ≡ q.aisle + 1 → along_cross b n p q ≡ 0
behind_last_back b n p q high aisle = grind (arith, nat_tests)

behind_step : (layout : Layout) (b : ℕ) (p q : Point) (t : ℕ) → IsMove layout p q t → Step layout p q t → along_cross b layout.aisles p q ≡ 0
behind_step layout b p q t move (deeper is) = behind_deeper b layout.aisles p q is.slot
behind_step layout b p q t move (nearer is) = behind_nearer b layout.aisles p q is.slot
behind_step layout b p q t move (further is) = behind_last b layout.aisles p q move.to_point.aisle.1 is.aisle
behind_step layout b p q t move (back is) = behind_last_back b layout.aisles p q move.from_point.aisle.1 is.aisle

-- the copies of a closed walk are even
pub closed_even : (layout : Layout) (from : Point) (points : List Point) (total : ℕ) → last_point from points ≡ from → IsWalk layout (from ∷ points) total
    → AreEven (site_of layout) (copies_of layout (from ∷ points))
closed_even layout from points total closes walk = record {
  across = λ a.
      let even = changes_even layout (λ p q. along_cross (back_end layout) a p q + along_cross 0 a p q) (within_first a) from points total
      (λ p q t move. across_step layout a p q t move.step) walk in
      let ends = ap (within_first a) closes in
      omega (arith, even, ends, sum_moves-add (along_cross (back_end layout) a) (along_cross 0 a) (from ∷ points));
  through = λ a s low.
      let even = changes_even layout (λ p q. along_aisle (suc a) s p q + along_cross 0 a p q + along_cross 0 (suc a) p q)
      (within_aisle (suc a) s) from points total (λ p q t move. through_step layout a s p q t low move.step) walk in
      let ends = ap (within_aisle (suc a) s) closes in
      omega (
        arith,
        even,
        ends,
        sum_moves-add (λ p q. along_aisle (suc a) s p q + along_cross 0 a p q) (along_cross 0 (suc a)) (from ∷ points),
        sum_moves-add (along_aisle (suc a) s) (along_cross 0 a) (from ∷ points),
      );
  first_behind = sum_moves-none layout _ (from ∷ points) total
      (λ p q t move. before_first (back_end layout) p q move.from_point.aisle.0 move.to_point.aisle.0) walk;
  first_front = sum_moves-none layout _ (from ∷ points) total (λ p q t move. before_first 0 p q move.from_point.aisle.0 move.to_point.aisle.0) walk;
  last_behind = sum_moves-none layout _ (from ∷ points) total (λ p q t move. behind_step layout (back_end layout) p q t move move.step) walk;
  last_front = sum_moves-none layout _ (from ∷ points) total (λ p q t move. behind_step layout 0 p q t move move.step) walk;
}
