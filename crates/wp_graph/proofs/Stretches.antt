-- What one pass over ascending distances comes to: the first, the last and the largest gap.
use Rattle.std.proofs.Common.{◌≡◌, ℕ, suc, ◌-◌, ◌*◌, ◌≤◌, Bool, true, false, if◌then◌else◌, List, [], ◌∷◌, Option, Some, None, fold, length, slice_get, max}
use Rattle.std.proofs.Common.{arith, refl, ap, ◌∙◌}
use Rattle.std.proofs.lemmas.Bool.{le-leb, le-ltb, lt-ltb, ne_eqb}
use Rattle.wp_model.specs.Warehouse.{End}
use Rattle.wp_model.specs.Warehouse.End.{at_front, at_back}
use Rattle.wp_graph.specs.declared.ways.AisleWays.{AisleWays}
use Rattle.wp_graph.specs.declared.ways.Stretch.{Stretch}
use Rattle.wp_graph.specs.AisleLengths.{ways_with}
use Rattle.wp_graph.specs.Required.{IsAscending, largest_gap}
use Rattle.wp_graph.specs.Stretches.{reach_to, ways_by_stretch}

-- the last of some numbers
abbrev pub last_from : ℕ → List ℕ → ℕ
last_from x [] = x
last_from x (y ∷ ys) = last_from y ys

-- the last of some numbers stands at the last place
pub last_is : (x : ℕ) (xs : List ℕ) → slice_get (x ∷ xs) (length (x ∷ xs) - 1) ≡ Some (last_from x xs)
last_is x [] = refl
last_is x (y ∷ ys) =
    let back : length (x ∷ y ∷ ys) - 1 ≡ suc (length (y ∷ ys) - 1) = omega arith in
    ap (λ i. slice_get (x ∷ y ∷ ys) i) back ∙ last_is y ys

-- the last of ascending numbers is no less than the first
pub last_above : (x : ℕ) (xs : List ℕ) → IsAscending (x ∷ xs) → x ≤ last_from x xs
last_above x [] up = omega arith
last_above x (y ∷ ys) up = let rest = last_above y ys up.1 in omega (arith, rest, up.0)

-- what further distances come to: the first stays, the last is the last of them, and the largest gap the larger one
pub reached_all : (s : Stretch) (distances : List ℕ) →
    fold reach_to (Some s) distances ≡ Some (record { first = s.first; last = last_from s.last distances; gap = max s.gap (largest_gap (s.last ∷ distances)) })
reached_all s [] = ap (λ (g : ℕ). Some (let r : Stretch = record { first = s.first; last = s.last; gap = g } in r)) (omega arith)
reached_all s (d ∷ ds) =
    reached_all (record { first = s.first; last = d; gap = max s.gap (d - s.last) }) ds
    ∙ ap (λ (g : ℕ). Some (let r : Stretch = record { first = s.first; last = last_from d ds; gap = g } in r)) (omega arith)

no_way : (b : Bool) → ◌≡◌ {A = Option ℕ} None (if b then None else None)
no_way true = refl
no_way false = refl

-- the ways by what one pass over ascending distances comes to are those by the distances
pub ways_reached : (depot : End → Bool) (whole : ℕ) (distances : List ℕ) → IsAscending distances →
    ways_by_stretch (depot at_front) (depot at_back) whole (fold reach_to None distances) ≡ ways_with depot whole distances
ways_reached depot whole [] up =
    ap (with_ends None) (no_way (depot at_back)) ∙ ap (λ (b : Option ℕ). with_ends b (if depot at_back then None else None)) (no_way (depot at_front))
  where
    with_ends : Option ℕ → Option ℕ → AisleWays
    with_ends back front = record { pass = whole; back = back; front = front; gap = None; double = 2 * whole; skip = Some 0 }
ways_reached depot whole (x ∷ []) up =
    let none = le-ltb x x (omega arith) in
    rw none refl
ways_reached depot whole (x ∷ y ∷ ys) up =
    let more = reached_all (record { first = x; last = x; gap = 0 }) (y ∷ ys) in
    let last = last_is x (y ∷ ys) in
    let above = last_above y ys up.1 in
    let two = lt-ltb x (last_from y ys) (omega (arith, above, up.0)) in
    let count = le-leb 2 (length (x ∷ y ∷ ys)) (omega arith) in
    let gap : max 0 (largest_gap (x ∷ y ∷ ys)) ≡ largest_gap (x ∷ y ∷ ys) = omega arith in
    let some = ne_eqb (length (x ∷ y ∷ ys)) 0 (λ e. omega arith) in
    ap (ways_by_stretch (depot at_front) (depot at_back) whole) more ∙ (rw (two, count, some, last, gap) refl)
