-- The length of a walk is that of the copies of its pieces.
use Rattle.std.proofs.Common.{◌≡◌, ◌≢◌, ℕ, suc, ◌+◌, ◌-◌, ◌*◌, ◌<◌, List, [], ◌∷◌, arith, refl, sym, ap, ◌∙◌, ⊎_elim}
use Rattle.std.proofs.lemmas.Bool.Decides.{nat_tests}
use Rattle.wp_model.proofs.Sums.{sum-add, sum-agree, sum-one_changed, sum-zero}
use Rattle.wp_model.specs.Sums.{sum_below}
use Rattle.wp_model.specs.declared.point.Point.{Point}
use Rattle.wp_model.specs.Warehouse.{Layout, IsDeeper, IsFurther, IsMove, Step, back_end, spacing_after, step_length}
use Rattle.wp_model.specs.Warehouse.Step.{deeper, nearer, further, back}
use Rattle.wp_model.specs.Tours.{IsWalk}
use Rattle.wp_graph.specs.Sites.{site_of}
use Rattle.wp_graph.specs.Copies.{Copies, aisle_walked, all_walked, along_aisle, along_cross, copies_of, cross_walked}

-- the pieces of one move
abbrev pub move_copies : Layout → Point → Point → Copies
move_copies layout p q = record { deep = λ a s. along_aisle a s p q; behind = λ a. along_cross (back_end layout) a p q; front = λ a. along_cross 0 a p q }

-- copies on top of copies
abbrev pub both_copies : Copies → Copies → Copies
both_copies f g = record { deep = λ a s. f.deep a s + g.deep a s; behind = λ a. f.behind a + g.behind a; front = λ a. f.front a + g.front a }

both_times : (x y c : ℕ) → (x + y) * c ≡ x * c + y * c
both_times x y c = grind arith

four_times : (x y z w c : ℕ) → (x + y + (z + w)) * c ≡ (x + z) * c + (y + w) * c
four_times x y z w c = grind arith

-- copies on top of copies are as long as both
pub walked_both : (layout : Layout) (f g : Copies) → all_walked (site_of layout) (both_copies f g) ≡ all_walked (site_of layout) f + all_walked
    (site_of layout) g
walked_both layout f g =
    sum-agree layout.aisles _ (λ a. (aisle_walked (site_of layout) f (suc a) + cross_walked (site_of layout) f (suc a)) +
    (aisle_walked (site_of layout) g (suc a) + cross_walked (site_of layout) g (suc a)))
    (λ a within.
    let inner = sum-agree (back_end layout) (λ s. (f.deep (suc a) s + g.deep (suc a) s) * step_length layout s)
    (λ s. f.deep (suc a) s * step_length layout s + g.deep (suc a) s * step_length layout s)
    (λ s low. both_times (f.deep (suc a) s) (g.deep (suc a) s) (step_length layout s)) in
    let apart = sum-add (back_end layout) (λ s. f.deep (suc a) s * step_length layout s) (λ s. g.deep (suc a) s * step_length layout s) in
    let crossing = four_times (f.behind (suc a)) (g.behind (suc a)) (f.front (suc a)) (g.front (suc a)) (spacing_after layout (suc a)) in
    omega (arith, inner, apart, crossing))
    ∙ sum-add layout.aisles (λ a. aisle_walked (site_of layout) f (suc a) + cross_walked (site_of layout) f (suc a))
    (λ a. aisle_walked (site_of layout) g (suc a) + cross_walked (site_of layout) g (suc a))

sum-only : (n : ℕ) (f : ℕ → ℕ) (at : ℕ) → at < n → ((k : ℕ) → k ≢ at → f k ≡ 0) → sum_below n f ≡ f at
sum-only n f at within none = omega (arith, sum-one_changed n f (λ k. 0) at within none, sum-zero n (λ k. 0) (λ k low. refl))

aisle_else : (a s : ℕ) (p q : Point) → (a ≡ p.aisle → ⊥) → along_aisle a s p q ≡ 0
aisle_else a s p q other = grind (arith, nat_tests)

place_else : (a s : ℕ) (p q : Point) → q.slot ≡ p.slot + 1 → (s ≡ p.slot → ⊥) → along_aisle a s p q ≡ 0
place_else a s p q slot other = grind (arith, nat_tests)

deep_one : (p q : Point) → q.aisle ≡ p.aisle → q.slot ≡ p.slot + 1 → along_aisle p.aisle p.slot p q ≡ 1
deep_one p q aisle slot = grind (arith, nat_tests)

deep_none : (e a : ℕ) (p q : Point) → q.slot ≡ p.slot + 1 → along_cross e a p q ≡ 0
deep_none e a p q slot = grind (arith, nat_tests)

further_none : (a s : ℕ) (p q : Point) → q.aisle ≡ p.aisle + 1 → along_aisle a s p q ≡ 0
further_none a s p q aisle = grind (arith, nat_tests)

cross_else : (e a : ℕ) (p q : Point) → q.aisle ≡ p.aisle + 1 → (a ≡ p.aisle → ⊥) → along_cross e a p q ≡ 0
cross_else e a p q aisle other = grind (arith, nat_tests)

front_one : (b : ℕ) (p q : Point) → 0 < b → p.slot ≡ 0 → q.aisle ≡ p.aisle + 1 → q.slot ≡ p.slot → along_cross b p.aisle p q + along_cross 0 p.aisle p q ≡ 1
front_one b p q some end aisle slot = grind (arith, nat_tests)

behind_one : (b : ℕ) (p q : Point) → 0 < b → p.slot ≡ b → q.aisle ≡ p.aisle + 1 → q.slot ≡ p.slot → along_cross b p.aisle p q + along_cross 0 p.aisle p q ≡ 1
behind_one b p q some end aisle slot = grind (arith, nat_tests)

aisle_turned : (a s : ℕ) (p q : Point) → along_aisle a s p q ≡ along_aisle a s q p
aisle_turned a s p q = grind (arith, nat_tests)

cross_turned : (e a : ℕ) (p q : Point) → along_cross e a p q ≡ along_cross e a q p
cross_turned e a p q = grind (arith, nat_tests)

move_turned : (layout : Layout) (p q : Point) → all_walked (site_of layout) (move_copies layout p q) ≡ all_walked (site_of layout) (move_copies layout q p)
move_turned layout p q = sum-agree layout.aisles _ _ (λ a within.
    let inner = sum-agree (back_end layout) (λ s. along_aisle (suc a) s p q * step_length layout s) (λ s. along_aisle (suc a) s q p * step_length layout s)
    (λ s low. ap (λ x. x * step_length layout s) (aisle_turned (suc a) s p q)) in
    let crossing = ap (λ x. x * spacing_after layout (suc a))
    (ap (λ y. y + along_cross 0 (suc a) p q) (cross_turned (back_end layout) (suc a) p q)
    ∙ ap (λ y. along_cross (back_end layout) (suc a) q p + y) (cross_turned 0 (suc a) p q)) in
    omega (arith, inner, crossing))

times_none : (x c : ℕ) → x ≡ 0 → x * c ≡ 0
times_none x c e = let none : 0 * c ≡ 0 = omega arith in ap (λ n. n * c) e ∙ none

zero_times : (x y c : ℕ) → x ≡ 0 → y ≡ 0 → (x + y) * c ≡ 0
zero_times x y c e d = let none : x + y ≡ 0 = omega (arith, e, d) in times_none (x + y) c none

-- one move deeper into an aisle
deeper_walked : (layout : Layout) (p q : Point) (t : ℕ) → IsMove layout p q t → IsDeeper layout p q t → all_walked (site_of layout) (move_copies layout p q) ≡ t
deeper_walked layout p q t move is =
    let each = λ (a : ℕ). aisle_walked (site_of layout) (move_copies layout p q) (suc a) + cross_walked (site_of layout) (move_copies layout p q) (suc a) in
    let at = p.aisle - 1 in
    let here : suc at ≡ p.aisle = omega (arith, move.from_point.aisle.0) in
    let low : p.slot < back_end layout = omega (arith, is.slot, move.to_point.slot) in
    let crossing : (a : ℕ) → cross_walked (site_of layout) (move_copies layout p q) a ≡ 0 =
    λ a. zero_times (along_cross (back_end layout) a p q) (along_cross 0 a p q) (spacing_after layout a) (deep_none (back_end layout) a p q is.slot)
    (deep_none 0 a p q is.slot) in
    let one = sum-only layout.aisles each at (omega (arith, here, move.from_point.aisle.1)) (λ a other.
    let none = sum-zero (back_end layout) (λ s. along_aisle (suc a) s p q * step_length layout s)
    (λ s within. times_none _ _ (aisle_else (suc a) s p q (λ e. other (omega (arith, e, here))))) in
    omega (arith, none, crossing (suc a))) in
    let inner = sum-only (back_end layout) (λ s. along_aisle p.aisle s p q * step_length layout s) p.slot low
    (λ s other. times_none _ _ (place_else p.aisle s p q is.slot other)) in
    let unit : along_aisle p.aisle p.slot p q * step_length layout p.slot ≡ step_length layout p.slot =
    ap (λ x. x * step_length layout p.slot) (deep_one p q is.aisle is.slot) ∙ omega arith in
    one ∙ ap (λ a. aisle_walked (site_of layout) (move_copies layout p q) a + cross_walked (site_of layout) (move_copies layout p q) a) here
    ∙ omega (arith, inner, unit, crossing p.aisle, is.length_is)

-- one move further along a cross aisle
further_walked : (layout : Layout) (p q : Point) (t : ℕ) → IsMove layout p q t → IsFurther layout p q t
    → all_walked (site_of layout) (move_copies layout p q) ≡ t
further_walked layout p q t move is =
    let each = λ (a : ℕ). aisle_walked (site_of layout) (move_copies layout p q) (suc a) + cross_walked (site_of layout) (move_copies layout p q) (suc a) in
    let at = p.aisle - 1 in
    let here : suc at ≡ p.aisle = omega (arith, move.from_point.aisle.0) in
    let inner : (a : ℕ) → aisle_walked (site_of layout) (move_copies layout p q) a ≡ 0 =
    λ a. sum-zero (back_end layout) (λ s. along_aisle a s p q * step_length layout s) (λ s within. times_none _ _ (further_none a s p q is.aisle)) in
    let one = sum-only layout.aisles each at (omega (arith, here, move.from_point.aisle.1)) (λ a other.
    let apart : suc a ≡ p.aisle → ⊥ = λ e. other (omega (arith, e, here)) in
    let none = zero_times (along_cross (back_end layout) (suc a) p q) (along_cross 0 (suc a) p q) (spacing_after layout (suc a))
    (cross_else (back_end layout) (suc a) p q is.aisle apart) (cross_else 0 (suc a) p q is.aisle apart) in
    omega (arith, none, inner (suc a))) in
    let count : along_cross (back_end layout) p.aisle p q + along_cross 0 p.aisle p q ≡ 1 =
    ⊎_elim (λ e. front_one (back_end layout) p q (omega arith) e is.aisle is.slot)
    (λ e. behind_one (back_end layout) p q (omega arith) e is.aisle is.slot) is.end in
    let unit : cross_walked (site_of layout) (move_copies layout p q) p.aisle ≡ spacing_after layout p.aisle =
    ap (λ x. x * spacing_after layout p.aisle) count ∙ omega arith in
    one ∙ ap (λ a. aisle_walked (site_of layout) (move_copies layout p q) a + cross_walked (site_of layout) (move_copies layout p q) a) here
    ∙ omega (arith, inner p.aisle, unit, is.length_is)

turned_point : (layout : Layout) (p q : Point) (t : ℕ) → IsMove layout p q t → Step layout q p t → IsMove layout q p t
turned_point layout p q t move step = record { from_point = move.to_point; to_point = move.from_point; step = step }

step_walked : (layout : Layout) (p q : Point) (t : ℕ) → IsMove layout p q t → Step layout p q t → all_walked (site_of layout) (move_copies layout p q) ≡ t
step_walked layout p q t move (deeper is) = deeper_walked layout p q t move is
step_walked layout p q t move (nearer is) = move_turned layout p q ∙ deeper_walked layout q p t (turned_point layout p q t move (deeper is)) is
step_walked layout p q t move (further is) = further_walked layout p q t move is
step_walked layout p q t move (back is) = move_turned layout p q ∙ further_walked layout q p t (turned_point layout p q t move (further is)) is

no_copies : (layout : Layout) (points : List Point) → ((a s : ℕ) → (copies_of layout points).deep a s ≡ 0)
    → ((a : ℕ) → (copies_of layout points).behind a ≡ 0) → ((a : ℕ) → (copies_of layout points).front a ≡ 0)
    → all_walked (site_of layout) (copies_of layout points) ≡ 0
no_copies layout points deep behind front = sum-zero layout.aisles _ (λ a within.
    let none = sum-zero (back_end layout) (λ s. (copies_of layout points).deep (suc a) s * step_length layout s) (λ s low. times_none _ _ (deep (suc a) s)) in
    omega (arith, none, zero_times _ _ (spacing_after layout (suc a)) (behind (suc a)) (front (suc a))))

-- a walk is as long as the copies of its pieces
pub walk_walked : (layout : Layout) (points : List Point) (total : ℕ) → IsWalk layout points total
    → all_walked (site_of layout) (copies_of layout points) ≡ total
walk_walked layout [] total walk = no_copies layout [] (λ a s. refl) (λ a. refl) (λ a. refl) ∙ sym walk
walk_walked layout (p ∷ []) total walk = no_copies layout (p ∷ []) (λ a s. refl) (λ a. refl) (λ a. refl) ∙ sym walk
walk_walked layout (p ∷ q ∷ points) total (step, rest, move, walk, sum) =
    walked_both layout (move_copies layout p q) (copies_of layout (q ∷ points))
    ∙ omega (arith, step_walked layout p q step move move.step, walk_walked layout (q ∷ points) rest walk, sum)
