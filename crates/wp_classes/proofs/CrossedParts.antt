-- The part of a tour with a crossing to the next aisle.
use Rattle.std.proofs.Common.{◌≡◌, ℕ, suc, ◌+◌, ◌*◌, ◌≤◌, ◌<◌, List, [], ◌∷◌, ◌++◌, IfSome, arith, refl, sym, subst, inl, inr}
use Rattle.wp_model.specs.declared.point.Point.{Point}
use Rattle.wp_model.specs.Warehouse.{Layout, back_end, spacing_after}
use Rattle.wp_classes.specs.declared.class.Class.{Class}
use Rattle.wp_classes.specs.declared.class.Class.TheVariants.{UU1, E01, ZE1, EE1, EE2, Z00, Z01}
use Rattle.wp_classes.specs.declared.class.Cross.{Cross}
use Rattle.wp_classes.specs.declared.class.Cross.TheVariants.{C00, C11, C20, C02, C22}
use Rattle.wp_classes.specs.Parts.{Part, with_cross}
use Rattle.wp_classes.specs.Paths.{On, Path, at}
use Rattle.wp_classes.specs.Tables.{class_after_cross, copies}
use Rattle.wp_classes.specs.Rounds.{OnPart, Shape}
use Rattle.wp_classes.proofs.Paths.{IsCrossway, on_first, on_second, path_join, path_left, path_right}

-- a path round by the aisle before: there, along it, and back
around : (layout : Layout) (aisle out home : ℕ) (points : List Point) (t : ℕ) → IsCrossway layout aisle out → IsCrossway layout aisle home
    → Path layout (at aisle out) points (at aisle home) t →
    Path layout (at (suc aisle) out) (at aisle out ∷ points ++ at (suc aisle) home ∷ []) (at (suc aisle) home) (2 * spacing_after layout aisle + t)
around layout aisle out home points t leave return path =
    let w = spacing_after layout aisle in
    let sum : w + (t + w) ≡ 2 * w + t = omega arith in
    subst (λ (n : ℕ). Path layout (at (suc aisle) out) (at aisle out ∷ points ++ at (suc aisle) home ∷ []) (at (suc aisle) home) n) sum
    (path_join layout _ _ _ (at aisle out ∷ []) (points ++ at (suc aisle) home ∷ []) w (t + w) (path_left layout aisle out leave)
    (path_join layout _ _ _ points (at (suc aisle) home ∷ []) t w path (path_right layout aisle home return)))

on_around : (aisle out home : ℕ) (points : List Point) (p : Point) → On (at aisle out) points p
    → On (at (suc aisle) out) (at aisle out ∷ points ++ at (suc aisle) home ∷ []) p
on_around aisle out home points p on = inr (on_first (at aisle out) points (at (suc aisle) home ∷ []) p on)

-- out and back along one cross aisle
there_and_back : (layout : Layout) (aisle end : ℕ) → IsCrossway layout aisle end
    → Path layout (at (suc aisle) end) (at aisle end ∷ at (suc aisle) end ∷ []) (at (suc aisle) end) (2 * spacing_after layout aisle)
there_and_back layout aisle end h =
    let w = spacing_after layout aisle in
    let sum : w + w ≡ 2 * w = omega arith in
    subst (λ (n : ℕ). Path layout (at (suc aisle) end) (at aisle end ∷ at (suc aisle) end ∷ []) (at (suc aisle) end) n) sum
    (path_join layout _ _ _ (at aisle end ∷ []) (at (suc aisle) end ∷ []) w w (path_left layout aisle end h) (path_right layout aisle end h))

-- the crossways at both ends
pub record AreCrossways (layout : Layout) (aisle : ℕ) : Type 0 where
  pub behind : IsCrossway layout aisle (back_end layout)
  pub in_front : IsCrossway layout aisle 0

-- from each aisle but the last one can cross to the next at both ends
pub crossways : (layout : Layout) (aisle : ℕ) → 1 ≤ aisle → aisle < layout.aisles → AreCrossways layout aisle
crossways layout aisle low high = record {
  behind = record { low = low; high = high; is_end = inr refl };
  in_front = record { low = low; high = high; is_end = inl refl };
}

-- with a crossing that the tables allow the paths run as the class after it says, and are longer by its copies
pub cross_shape : (layout : Layout) (aisle : ℕ) (class : Class) (cross : Cross) (part : Part) (t : ℕ) → AreCrossways layout aisle
    → Shape layout aisle class part t →
    IfSome (class_after_cross class cross) (λ next. Shape layout (suc aisle) next (with_cross layout aisle class cross part)
    (copies cross * spacing_after layout aisle + t))
cross_shape layout aisle UU1 C11 part t ways shape = around layout aisle (back_end layout) 0 part.first t ways.behind ways.in_front shape
cross_shape layout aisle UU1 _ part t ways shape = tt
cross_shape layout aisle E01 C00 part t ways shape =
    let sum : t ≡ 0 * spacing_after layout aisle + t = omega arith in
    subst (λ (n : ℕ). Path layout (at aisle (back_end layout)) part.first (at aisle (back_end layout)) n) sum shape
cross_shape layout aisle E01 C20 part t ways shape = around layout aisle (back_end layout) (back_end layout) part.first t ways.behind ways.behind shape
cross_shape layout aisle E01 C22 part t ways shape =
    let w = spacing_after layout aisle in (
      2 * w + t,
      2 * w,
      around layout aisle (back_end layout) (back_end layout) part.first t ways.behind ways.behind shape,
      there_and_back layout aisle 0 ways.in_front,
      omega arith,
    )
cross_shape layout aisle E01 _ part t ways shape = tt
cross_shape layout aisle ZE1 C00 part t ways shape =
    let sum : t ≡ 0 * spacing_after layout aisle + t = omega arith in
    subst (λ (n : ℕ). Path layout (at aisle 0) part.first (at aisle 0) n) sum shape
cross_shape layout aisle ZE1 C02 part t ways shape = around layout aisle 0 0 part.first t ways.in_front ways.in_front shape
cross_shape layout aisle ZE1 C22 part t ways shape =
    let w = spacing_after layout aisle in (
      2 * w,
      2 * w + t,
      there_and_back layout aisle (back_end layout) ways.behind,
      around layout aisle 0 0 part.first t ways.in_front ways.in_front shape,
      omega arith,
    )
cross_shape layout aisle ZE1 _ part t ways shape = tt
cross_shape layout aisle EE1 C00 part t ways (s, r, one, two, total) =
    let sum : s + r ≡ 0 * spacing_after layout aisle + t = omega (arith, total) in
    subst (λ (n : ℕ). Path layout (at aisle (back_end layout)) (part.first ++ part.second) (at aisle (back_end layout)) n) sum
    (path_join layout _ _ _ part.first part.second s r one two)
cross_shape layout aisle EE1 C20 part t ways (s, r, one, two, total) =
    subst (λ (n : ℕ). Path layout (at (suc aisle) (back_end layout))
    (at aisle (back_end layout) ∷ (part.first ++ part.second) ++ at (suc aisle) (back_end layout) ∷ []) (at (suc aisle) (back_end layout))
    (2 * spacing_after layout aisle + n)) (sym total)
    (around layout aisle (back_end layout) (back_end layout) (part.first ++ part.second) (s + r) ways.behind ways.behind
    (path_join layout _ _ _ part.first part.second s r one two))
cross_shape layout aisle EE1 C02 part t ways (s, r, one, two, total) =
    let turned : r + s ≡ t = omega (arith, total) in
    subst (λ (n : ℕ). Path layout (at (suc aisle) 0) (at aisle 0 ∷ (part.second ++ part.first) ++ at (suc aisle) 0 ∷ []) (at (suc aisle) 0)
    (2 * spacing_after layout aisle + n)) turned
    (around layout aisle 0 0 (part.second ++ part.first) (r + s) ways.in_front ways.in_front (path_join layout _ _ _ part.second part.first r s two one))
cross_shape layout aisle EE1 C22 part t ways (s, r, one, two, total) =
    let w = spacing_after layout aisle in (
      2 * w + s,
      2 * w + r,
      around layout aisle (back_end layout) 0 part.first s ways.behind ways.in_front one,
      around layout aisle 0 (back_end layout) part.second r ways.in_front ways.behind two,
      omega (arith, total),
    )
cross_shape layout aisle EE1 _ part t ways shape = tt
cross_shape layout aisle EE2 C22 part t ways (s, r, one, two, total) =
    let w = spacing_after layout aisle in (
      2 * w + s,
      2 * w + r,
      around layout aisle (back_end layout) (back_end layout) part.first s ways.behind ways.behind one,
      around layout aisle 0 0 part.second r ways.in_front ways.in_front two,
      omega (arith, total),
    )
cross_shape layout aisle EE2 _ part t ways shape = tt
cross_shape layout aisle Z00 C00 part t ways shape = omega (arith, shape)
cross_shape layout aisle Z00 C20 part t ways shape =
    let sum : 2 * spacing_after layout aisle ≡ 2 * spacing_after layout aisle + t = omega (arith, shape) in
    subst (λ (n : ℕ). Path layout (at (suc aisle) (back_end layout)) (at aisle (back_end layout) ∷ at (suc aisle) (back_end layout) ∷ [])
    (at (suc aisle) (back_end layout)) n) sum (there_and_back layout aisle (back_end layout) ways.behind)
cross_shape layout aisle Z00 C02 part t ways shape =
    let sum : 2 * spacing_after layout aisle ≡ 2 * spacing_after layout aisle + t = omega (arith, shape) in
    subst (λ (n : ℕ). Path layout (at (suc aisle) 0) (at aisle 0 ∷ at (suc aisle) 0 ∷ []) (at (suc aisle) 0) n) sum
    (there_and_back layout aisle 0 ways.in_front)
cross_shape layout aisle Z00 C22 part t ways shape =
    let w = spacing_after layout aisle in
    (2 * w, 2 * w, there_and_back layout aisle (back_end layout) ways.behind, there_and_back layout aisle 0 ways.in_front, omega (arith, shape))
cross_shape layout aisle Z00 _ part t ways shape = tt
cross_shape layout aisle Z01 C00 part t ways shape =
    let sum : t ≡ 0 * spacing_after layout aisle + t = omega arith in
    subst (λ (n : ℕ). Path layout part.start part.first part.start n) sum shape
cross_shape layout aisle Z01 _ part t ways shape = tt

-- what lay on the part lies on it still with a crossing that the tables allow
pub cross_keeps : (layout : Layout) (aisle : ℕ) (class : Class) (cross : Cross) (part : Part) (t : ℕ) (p : Point) → Shape layout aisle class part t
    → OnPart layout aisle class part p →
    IfSome (class_after_cross class cross) (λ next. OnPart layout (suc aisle) next (with_cross layout aisle class cross part) p)
cross_keeps layout aisle UU1 C11 part t p shape on = on_around aisle (back_end layout) 0 part.first p on
cross_keeps layout aisle UU1 _ part t p shape on = tt
cross_keeps layout aisle E01 C00 part t p shape on = on
cross_keeps layout aisle E01 C20 part t p shape on = on_around aisle (back_end layout) (back_end layout) part.first p on
cross_keeps layout aisle E01 C22 part t p shape on = inl (on_around aisle (back_end layout) (back_end layout) part.first p on)
cross_keeps layout aisle E01 _ part t p shape on = tt
cross_keeps layout aisle ZE1 C00 part t p shape on = on
cross_keeps layout aisle ZE1 C02 part t p shape on = on_around aisle 0 0 part.first p on
cross_keeps layout aisle ZE1 C22 part t p shape on = inr (on_around aisle 0 0 part.first p on)
cross_keeps layout aisle ZE1 _ part t p shape on = tt
cross_keeps layout aisle EE1 C00 part t p (s, r, one, two, total) (inl on) = on_first _ part.first part.second p on
cross_keeps layout aisle EE1 C00 part t p (s, r, one, two, total) (inr on) = on_second layout _ _ part.first part.second s p one on
cross_keeps layout aisle EE1 C20 part t p (s, r, one, two, total) (inl on) =
    on_around aisle (back_end layout) (back_end layout) (part.first ++ part.second) p (on_first _ part.first part.second p on)
cross_keeps layout aisle EE1 C20 part t p (s, r, one, two, total) (inr on) =
    on_around aisle (back_end layout) (back_end layout) (part.first ++ part.second) p (on_second layout _ _ part.first part.second s p one on)
cross_keeps layout aisle EE1 C02 part t p (s, r, one, two, total) (inl on) =
    on_around aisle 0 0 (part.second ++ part.first) p (on_second layout _ _ part.second part.first r p two on)
cross_keeps layout aisle EE1 C02 part t p (s, r, one, two, total) (inr on) =
    on_around aisle 0 0 (part.second ++ part.first) p (on_first _ part.second part.first p on)
cross_keeps layout aisle EE1 C22 part t p shape (inl on) = inl (on_around aisle (back_end layout) 0 part.first p on)
cross_keeps layout aisle EE1 C22 part t p shape (inr on) = inr (on_around aisle 0 (back_end layout) part.second p on)
cross_keeps layout aisle EE1 _ part t p shape on = tt
cross_keeps layout aisle EE2 C22 part t p shape (inl on) = inl (on_around aisle (back_end layout) (back_end layout) part.first p on)
cross_keeps layout aisle EE2 C22 part t p shape (inr on) = inr (on_around aisle 0 0 part.second p on)
cross_keeps layout aisle EE2 _ part t p shape on = tt
cross_keeps layout aisle Z00 C00 part t p shape on = on
cross_keeps layout aisle Z00 C20 part t p shape on = absurd on
cross_keeps layout aisle Z00 C02 part t p shape on = absurd on
cross_keeps layout aisle Z00 C22 part t p shape on = absurd on
cross_keeps layout aisle Z00 _ part t p shape on = tt
cross_keeps layout aisle Z01 C00 part t p shape on = on
cross_keeps layout aisle Z01 _ part t p shape on = tt
