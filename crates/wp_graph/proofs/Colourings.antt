-- What a walk joins: a colouring of the places that no walked piece changes is one colour on the whole walk.
use Rattle.std.proofs.Common.{◌≡◌, ℕ, zero, suc, ◌+◌, ◌<◌, Bool, List, [], ◌∷◌, arith, refl, sym, ap, ◌∙◌, ◌⊎◌, inl, inr, ⊎_elim}
use Rattle.std.proofs.lemmas.Bool.Decides.{nat_tests}
use Rattle.wp_model.specs.declared.point.Point.{Point}
use Rattle.wp_model.specs.Warehouse.{Layout, Step, back_end}
use Rattle.wp_model.specs.Warehouse.Step.{deeper, nearer, further, back}
use Rattle.wp_model.specs.Tours.{IsWalk}
use Rattle.wp_graph.specs.Sites.{site_of}
use Rattle.wp_graph.specs.Copies.{along_aisle, along_cross, copies_of, sum_moves}
use Rattle.wp_graph.specs.Members.{Among}
use Rattle.wp_graph.specs.TourCopies.{AreJoined, IsUnwalked}

-- a colouring that no piece of a walk changes is changed by none of the walk without its first move
pub kept_tail : (layout : Layout) (colour : ℕ → ℕ → Bool) (p q : Point) (points : List Point)
    → IsUnwalked (site_of layout) (copies_of layout (p ∷ q ∷ points)) colour → IsUnwalked (site_of layout) (copies_of layout (q ∷ points)) colour
kept_tail layout colour p q points kept = record {
  deep = λ a s some. kept.deep a s (omega (arith, some));
  behind = λ a some. kept.behind a (omega (arith, some));
  front = λ a some. kept.front a (omega (arith, some));
}

-- the piece that a move goes along
deep_one : (p q : Point) → q.aisle ≡ p.aisle → q.slot ≡ p.slot + 1 → along_aisle p.aisle p.slot p q ≡ 1
deep_one p q aisle slot = grind (arith, nat_tests)

near_one : (p q : Point) → p.aisle ≡ q.aisle → p.slot ≡ q.slot + 1 → along_aisle q.aisle q.slot p q ≡ 1
near_one p q aisle slot = grind (arith, nat_tests)

cross_one : (e : ℕ) (p q : Point) → p.slot ≡ e → q.aisle ≡ p.aisle + 1 → q.slot ≡ p.slot → along_cross e p.aisle p q ≡ 1
cross_one e p q at aisle slot = grind (arith, nat_tests)

back_one : (e : ℕ) (p q : Point) → q.slot ≡ e → p.aisle ≡ q.aisle + 1 → p.slot ≡ q.slot → along_cross e q.aisle p q ≡ 1
back_one e p q at aisle slot = grind (arith, nat_tests)

kept_step : (layout : Layout) (colour : ℕ → ℕ → Bool) (p q : Point) (points : List Point) (t : ℕ)
    → IsUnwalked (site_of layout) (copies_of layout (p ∷ q ∷ points)) colour → Step layout p q t → colour p.aisle p.slot ≡ colour q.aisle q.slot
kept_step layout colour p q points t kept (deeper is) =
    let next : q.slot ≡ suc p.slot = omega (arith, is.slot) in
    kept.deep p.aisle p.slot (omega (arith, deep_one p q is.aisle is.slot)) ∙ sym (ap (λ x. colour x q.slot) is.aisle ∙ ap (colour p.aisle) next)
kept_step layout colour p q points t kept (nearer is) =
    let next : p.slot ≡ suc q.slot = omega (arith, is.slot) in
    (ap (λ x. colour x p.slot) is.aisle ∙ ap (colour q.aisle) next) ∙ sym (kept.deep q.aisle q.slot (omega (arith, near_one p q is.aisle is.slot)))
kept_step layout colour p q points t kept (further is) =
    let next : q.aisle ≡ suc p.aisle = omega (arith, is.aisle) in
    ⊎_elim
    (λ e. ap (colour p.aisle) e ∙ kept.front p.aisle (omega (arith, cross_one 0 p q e is.aisle is.slot))
    ∙ sym (ap (λ x. colour x q.slot) next ∙ ap (colour (suc p.aisle)) (is.slot ∙ e)))
    (λ e. ap (colour p.aisle) e ∙ kept.behind p.aisle (omega (arith, cross_one (back_end layout) p q e is.aisle is.slot))
    ∙ sym (ap (λ x. colour x q.slot) next ∙ ap (colour (suc p.aisle)) (is.slot ∙ e)))
    is.end
kept_step layout colour p q points t kept (back is) =
    let next : p.aisle ≡ suc q.aisle = omega (arith, is.aisle) in
    ⊎_elim
    (λ e. (ap (λ x. colour x p.slot) next ∙ ap (colour (suc q.aisle)) (is.slot ∙ e))
    ∙ sym (ap (colour q.aisle) e ∙ kept.front q.aisle (omega (arith, back_one 0 p q e is.aisle is.slot))))
    (λ e. (ap (λ x. colour x p.slot) next ∙ ap (colour (suc q.aisle)) (is.slot ∙ e))
    ∙ sym (ap (colour q.aisle) e ∙ kept.behind q.aisle (omega (arith, back_one (back_end layout) p q e is.aisle is.slot))))
    is.end

-- each point of the walk has the colour of the first
pub walk_coloured : (layout : Layout) (colour : ℕ → ℕ → Bool) (from : Point) (points : List Point) (total : ℕ) (x : Point)
    → IsUnwalked (site_of layout) (copies_of layout (from ∷ points)) colour → IsWalk layout (from ∷ points) total → Among (from ∷ points) x →
    colour x.aisle x.slot ≡ colour from.aisle from.slot
walk_coloured layout colour from points total x kept walk (inl e) = ap (λ (p : Point). colour p.aisle p.slot) (sym e)
walk_coloured layout colour from [] total x kept walk (inr h) = absurd h
walk_coloured layout colour from (to ∷ points) total x kept walk (inr h) =
    walk_coloured layout colour to points walk.1 x (kept_tail layout colour from to points kept) walk.3 h
    ∙ sym (kept_step layout colour from to points walk.0 kept walk.2.step)

-- a walked piece begins at a point of the walk
deep_at : (a s : ℕ) (p q : Point) → q.aisle ≡ p.aisle → q.slot ≡ p.slot + 1 → 0 < along_aisle a s p q → (p.aisle ≡ a) × (p.slot ≡ s)
deep_at a s p q aisle slot some = (grind (arith, nat_tests), grind (arith, nat_tests))

near_at : (a s : ℕ) (p q : Point) → p.aisle ≡ q.aisle → p.slot ≡ q.slot + 1 → 0 < along_aisle a s p q → (q.aisle ≡ a) × (q.slot ≡ s)
near_at a s p q aisle slot some = (grind (arith, nat_tests), grind (arith, nat_tests))

deep_not : (a s : ℕ) (p q : Point) → q.aisle ≡ p.aisle + 1 → along_aisle a s p q ≡ 0
deep_not a s p q aisle = grind (arith, nat_tests)

near_not : (a s : ℕ) (p q : Point) → p.aisle ≡ q.aisle + 1 → along_aisle a s p q ≡ 0
near_not a s p q aisle = grind (arith, nat_tests)

cross_at : (e a : ℕ) (p q : Point) → q.aisle ≡ p.aisle + 1 → 0 < along_cross e a p q → (p.aisle ≡ a) × (p.slot ≡ e)
cross_at e a p q aisle some = (grind (arith, nat_tests), grind (arith, nat_tests))

back_at : (e a : ℕ) (p q : Point) → p.aisle ≡ q.aisle + 1 → 0 < along_cross e a p q → (q.aisle ≡ a) × (q.slot ≡ e)
back_at e a p q aisle some = (grind (arith, nat_tests), grind (arith, nat_tests))

cross_not : (e a : ℕ) (p q : Point) → q.slot ≡ p.slot + 1 → along_cross e a p q ≡ 0
cross_not e a p q slot = grind (arith, nat_tests)

back_not : (e a : ℕ) (p q : Point) → p.slot ≡ q.slot + 1 → along_cross e a p q ≡ 0
back_not e a p q slot = grind (arith, nat_tests)

deep_step : (layout : Layout) (colour : ℕ → ℕ → Bool) (a s : ℕ) (p q : Point) (t : ℕ) → 0 < along_aisle a s p q
    → colour p.aisle p.slot ≡ colour q.aisle q.slot → Step layout p q t → colour a s ≡ colour p.aisle p.slot
deep_step layout colour a s p q t some same (deeper is) = let at = deep_at a s p q is.aisle is.slot some in
    sym (ap (λ x. colour x p.slot) at.0 ∙ ap (colour a) at.1)
deep_step layout colour a s p q t some same (nearer is) = let at = near_at a s p q is.aisle is.slot some in
    sym (ap (λ x. colour x q.slot) at.0 ∙ ap (colour a) at.1) ∙ sym same
deep_step layout colour a s p q t some same (further is) = absurd (omega (arith, some, deep_not a s p q is.aisle))
deep_step layout colour a s p q t some same (back is) = absurd (omega (arith, some, near_not a s p q is.aisle))

cross_step : (layout : Layout) (colour : ℕ → ℕ → Bool) (e a : ℕ) (p q : Point) (t : ℕ) → 0 < along_cross e a p q
    → colour p.aisle p.slot ≡ colour q.aisle q.slot → Step layout p q t → colour a e ≡ colour p.aisle p.slot
cross_step layout colour e a p q t some same (deeper is) = absurd (omega (arith, some, cross_not e a p q is.slot))
cross_step layout colour e a p q t some same (nearer is) = absurd (omega (arith, some, back_not e a p q is.slot))
cross_step layout colour e a p q t some same (further is) = let at = cross_at e a p q is.aisle some in sym (ap (λ x. colour x p.slot) at.0 ∙ ap (colour a) at.1)
cross_step layout colour e a p q t some same (back is) = let at = back_at e a p q is.aisle some in
    sym (ap (λ x. colour x q.slot) at.0 ∙ ap (colour a) at.1) ∙ sym same

positive : (n : ℕ) → (n ≡ 0) ⊎ (0 < n)
positive zero = inl refl
positive (suc n) = inr (omega arith)

-- where a walked piece begins, there is the colour of the first point
pub piece_coloured : (layout : Layout) (colour : ℕ → ℕ → Bool) (each : Point → Point → ℕ) (a s : ℕ) (from : Point) (points : List Point) (total : ℕ) →
    ((p q : Point) (t : ℕ) → 0 < each p q → colour p.aisle p.slot ≡ colour q.aisle q.slot → Step layout p q t → colour a s ≡ colour p.aisle p.slot)
    → IsUnwalked (site_of layout) (copies_of layout (from ∷ points)) colour → IsWalk layout (from ∷ points) total →
    0 < sum_moves each (from ∷ points) → colour a s ≡ colour from.aisle from.slot
piece_coloured layout colour each a s from [] total at kept walk some = absurd (omega (arith, some))
piece_coloured layout colour each a s from (to ∷ points) total at kept (step, rest, move, walk, sum) some =
    let same = kept_step layout colour from to points step kept move.step in
    ⊎_elim
    (λ none. piece_coloured layout colour each a s to points rest at (kept_tail layout colour from to points kept) walk (omega (arith, none, some)) ∙ sym same)
    (λ here. at from to step here same move.step)
    (positive (each from to))

-- a walk past all points that are needed joins them and all its pieces to its first point
pub walk_joined : (layout : Layout) (Needed : Point → Type 0) (from : Point) (points : List Point) (total : ℕ)
    → ((x : Point) → Needed x → Among (from ∷ points) x) → IsWalk layout (from ∷ points) total →
    AreJoined (site_of layout) (copies_of layout (from ∷ points)) Needed from
walk_joined layout Needed from points total passed walk = record {
  needed = λ colour kept x h. walk_coloured layout colour from points total x kept walk (passed x h);
  deep = λ colour kept a s some. piece_coloured layout colour (along_aisle a s) a s from points total
      (λ p q t here same step. deep_step layout colour a s p q t here same step) kept walk some;
  behind = λ colour kept a some. piece_coloured layout colour (along_cross (back_end layout) a) a (back_end layout) from points total
      (λ p q t here same step. cross_step layout colour (back_end layout) a p q t here same step) kept walk some;
  front = λ colour kept a some. piece_coloured layout colour (along_cross 0 a) a 0 from points total
      (λ p q t here same step. cross_step layout colour 0 a p q t here same step) kept walk some;
}
