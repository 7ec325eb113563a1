-- The points of a path, by how many moves lead to them.
use Rattle.std.proofs.lemmas.Bool.{and_from, and_parts, eq-eqb, eqb-true, false≢true}
use Rattle.wp_graph.proofs.PickSets.{same_point}
use Rattle.std.proofs.Common.{◌≡◌, ◌≢◌, ◌&&◌, true, false, eqb, ap, sym, ◌∙◌, ℕ, zero, suc, ◌+◌, ◌<◌, List, [], ◌∷◌, length, get_or, add-one, arith, refl}
use Rattle.std.proofs.Common.{inl, inr}
use Rattle.wp_model.specs.declared.point.Point.{Point}
use Rattle.wp_classes.specs.Paths.{On, after_moves}

-- the point of a path after i + 1 moves is at place i of its further points
pub after_get : (start : Point) (points : List Point) (i : ℕ) (default : Point) → i < length points → after_moves start points (i + 1) ≡ get_or points i default
after_get start points i default within = rw add-one (go start points i within)
  where
    go : (from : Point) (ps : List Point) (k : ℕ) → k < length ps → after_moves from ps (suc k) ≡ get_or ps k default
    go from [] k h = absurd (omega arith)
    go from (p ∷ ps) zero h = first ps
      where
        first : (qs : List Point) → after_moves p qs zero ≡ p
        first qs = refl
    go from (p ∷ ps) (suc k) h = go p ps k (omega arith)

-- no point of a path is neither its start nor one of its further points
pub never_there : (start : Point) (points : List Point) (goal default : Point) → On start points goal → start ≢ goal
    → ((k : ℕ) → k < length points → get_or points k default ≢ goal) → ⊥
never_there start [] goal default on first none = first on
never_there start (p ∷ points) goal default (inl e) first none = first e
never_there start (p ∷ points) goal default (inr on) first none =
    never_there p points goal default on (none 0 (omega arith)) (λ k within. none (suc k) (omega arith))

-- two points for which the test passes are the same
pub points_same : (p q : Point) → true ≡ (eqb p.aisle q.aisle && eqb p.slot q.slot) → p ≡ q
points_same p q e = let parts = and_parts (eqb p.aisle q.aisle) (eqb p.slot q.slot) (sym e) in same_point p q (eqb-true _ _ parts.0) (eqb-true _ _ parts.1)

-- two points for which the test fails are not the same
pub points_differ : (p q : Point) → false ≡ (eqb p.aisle q.aisle && eqb p.slot q.slot) → p ≢ q
points_differ p q e same =
    let on = and_from (eqb p.aisle q.aisle) (eqb p.slot q.slot) (eq-eqb _ _ (ap (λ (r : Point). r.aisle) same))
    (eq-eqb _ _ (ap (λ (r : Point). r.slot) same)) in false≢true (e ∙ on)
