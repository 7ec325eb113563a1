-- The part of a tour, of any class but 001, with one more pass of its aisle, or one more way from an end of it to a
-- place and back.
use Rattle.std.proofs.Common.{◌≡◌, ℕ, ◌+◌, ◌≤◌, ◌++◌, arith, refl, subst, inl, inr}
use Rattle.wp_model.specs.declared.point.Point.{Point}
use Rattle.wp_model.specs.Warehouse.{Layout, IsUpTo, back_end}
use Rattle.wp_graph.specs.Required.{aisle_length}
use Rattle.wp_classes.specs.declared.class.Class.{Class}
use Rattle.wp_classes.specs.declared.class.Class.TheVariants.{UU1, E01, ZE1, EE1, EE2, Z00, Z01}
use Rattle.wp_classes.specs.Parts.{Part, class_with_back, class_with_pass, with_back, with_front, with_pass}
use Rattle.wp_classes.specs.Paths.{On, Path, at, from_back, from_front, pass_down}
use Rattle.wp_classes.specs.Rounds.{OnPart, Shape}
use Rattle.wp_classes.proofs.Paths.{on_first, on_second, path_join}
use Rattle.wp_classes.proofs.AislePaths.{down_path, on_down, on_up, up_path}

-- with one more pass the paths run as the class with it says, and are longer by the aisle
pub pass_shape : (layout : Layout) (aisle : ℕ) (class : Class) (part : Part) (t : ℕ) → IsUpTo layout.aisles aisle → (class ≡ Z01 → ⊥)
    → Shape layout aisle class part t →
    Shape layout aisle (class_with_pass class) (with_pass layout aisle class part) (t + aisle_length layout)
pass_shape layout aisle UU1 part t within live shape = (t, aisle_length layout, shape, up_path layout aisle within, refl)
pass_shape layout aisle E01 part t within live shape = path_join layout _ _ _ part.first (pass_down layout aisle) t (aisle_length layout) shape
    (down_path layout aisle within)
pass_shape layout aisle ZE1 part t within live shape =
    let sum : aisle_length layout + t ≡ t + aisle_length layout = omega arith in
    subst (λ (n : ℕ). Path layout (at aisle (back_end layout)) (pass_down layout aisle ++ part.first) (at aisle 0) n) sum
    (path_join layout _ _ _ (pass_down layout aisle) part.first (aisle_length layout) t (down_path layout aisle within) shape)
pass_shape layout aisle EE1 part t within live (s, r, one, two, total) =
    let sum : s + r + aisle_length layout ≡ t + aisle_length layout = omega (arith, total) in
    subst (λ (n : ℕ). Path layout (at aisle (back_end layout)) (part.first ++ part.second ++ pass_down layout aisle) (at aisle 0) n) sum
    (path_join layout _ _ _ (part.first ++ part.second) (pass_down layout aisle) (s + r) (aisle_length layout)
    (path_join layout _ _ _ part.first part.second s r one two) (down_path layout aisle within))
pass_shape layout aisle EE2 part t within live (s, r, one, two, total) =
    let sum : s + aisle_length layout + r ≡ t + aisle_length layout = omega (arith, total) in
    subst (λ (n : ℕ). Path layout (at aisle (back_end layout)) (part.first ++ pass_down layout aisle ++ part.second) (at aisle 0) n) sum
    (path_join layout _ _ _ (part.first ++ pass_down layout aisle) part.second (s + aisle_length layout) r
    (path_join layout _ _ _ part.first (pass_down layout aisle) s (aisle_length layout) one (down_path layout aisle within)) two)
pass_shape layout aisle Z00 part t within live shape =
    let sum : aisle_length layout ≡ t + aisle_length layout = omega (arith, shape) in
    subst (λ (n : ℕ). Path layout (at aisle (back_end layout)) (pass_down layout aisle) (at aisle 0) n) sum (down_path layout aisle within)
pass_shape layout aisle Z01 part t within live shape = absurd (live refl)

-- what lay on the part lies on it still with one more pass
pub pass_keeps : (layout : Layout) (aisle : ℕ) (class : Class) (part : Part) (t : ℕ) (p : Point) → IsUpTo layout.aisles aisle
    → Shape layout aisle class part t → OnPart layout aisle class part p →
    OnPart layout aisle (class_with_pass class) (with_pass layout aisle class part) p
pass_keeps layout aisle UU1 part t p within shape on = inl on
pass_keeps layout aisle E01 part t p within shape on = on_first _ part.first _ p on
pass_keeps layout aisle ZE1 part t p within shape on = on_second layout _ _ (pass_down layout aisle) part.first _ p (down_path layout aisle within) on
pass_keeps layout aisle EE1 part t p within (s, r, one, two, total) (inl on) =
    on_first _ (part.first ++ part.second) _ p (on_first _ part.first part.second p on)
pass_keeps layout aisle EE1 part t p within (s, r, one, two, total) (inr on) =
    on_first _ (part.first ++ part.second) _ p (on_second layout _ _ part.first part.second s p one on)
pass_keeps layout aisle EE2 part t p within (s, r, one, two, total) (inl on) =
    on_first _ (part.first ++ pass_down layout aisle) _ p (on_first _ part.first _ p on)
pass_keeps layout aisle EE2 part t p within (s, r, one, two, total) (inr on) =
    on_second layout _ _ (part.first ++ pass_down layout aisle) part.second (s + aisle_length layout) p
    (path_join layout _ _ _ part.first (pass_down layout aisle) s (aisle_length layout) one (down_path layout aisle within)) on
pass_keeps layout aisle Z00 part t p within shape on = absurd on
pass_keeps layout aisle Z01 part t p within shape on = on

-- with one more pass each place of the aisle lies on the part
pub pass_adds : (layout : Layout) (aisle : ℕ) (class : Class) (part : Part) (t s : ℕ) → IsUpTo layout.aisles aisle → (class ≡ Z01 → ⊥)
    → Shape layout aisle class part t → s ≤ back_end layout →
    OnPart layout aisle (class_with_pass class) (with_pass layout aisle class part) (at aisle s)
pass_adds layout aisle UU1 part t s within live shape high = inr (on_up layout aisle s high)
pass_adds layout aisle E01 part t s within live shape high = on_second layout _ _ part.first (pass_down layout aisle) t _ shape (on_down layout aisle s high)
pass_adds layout aisle ZE1 part t s within live shape high = on_first _ (pass_down layout aisle) part.first _ (on_down layout aisle s high)
pass_adds layout aisle EE1 part t s within live (a, b, one, two, total) high =
    on_second layout _ _ (part.first ++ part.second) (pass_down layout aisle) (a + b) _ (path_join layout _ _ _ part.first part.second a b one two)
    (on_down layout aisle s high)
pass_adds layout aisle EE2 part t s within live (a, b, one, two, total) high =
    on_first _ (part.first ++ pass_down layout aisle) part.second _
    (on_second layout _ _ part.first (pass_down layout aisle) a _ one (on_down layout aisle s high))
pass_adds layout aisle Z00 part t s within live shape high = on_down layout aisle s high
pass_adds layout aisle Z01 part t s within live shape high = absurd (live refl)

-- with a way from the back end the paths run as the class with it says, and are longer by the way
pub back_shape : (layout : Layout) (aisle far : ℕ) (class : Class) (part : Part) (t l : ℕ) → (class ≡ Z01 → ⊥)
    → Path layout (at aisle (back_end layout)) (from_back layout aisle far) (at aisle (back_end layout)) l →
    Shape layout aisle class part t → Shape layout aisle (class_with_back class) (with_back layout aisle far class part) (t + l)
back_shape layout aisle far UU1 part t l live path shape =
    let sum : l + t ≡ t + l = omega arith in
    subst (λ (n : ℕ). Path layout (at aisle (back_end layout)) (from_back layout aisle far ++ part.first) (at aisle 0) n) sum
    (path_join layout _ _ _ (from_back layout aisle far) part.first l t path shape)
back_shape layout aisle far E01 part t l live path shape =
    let sum : l + t ≡ t + l = omega arith in
    subst (λ (n : ℕ). Path layout (at aisle (back_end layout)) (from_back layout aisle far ++ part.first) (at aisle (back_end layout)) n) sum
    (path_join layout _ _ _ (from_back layout aisle far) part.first l t path shape)
back_shape layout aisle far ZE1 part t l live path shape = (l, t, path, shape, omega arith)
back_shape layout aisle far EE1 part t l live path (s, r, one, two, total) =
    (l + s, r, path_join layout _ _ _ (from_back layout aisle far) part.first l s path one, two, omega (arith, total))
back_shape layout aisle far EE2 part t l live path (s, r, one, two, total) =
    (l + s, r, path_join layout _ _ _ (from_back layout aisle far) part.first l s path one, two, omega (arith, total))
back_shape layout aisle far Z00 part t l live path shape =
    let sum : l ≡ t + l = omega (arith, shape) in
    subst (λ (n : ℕ). Path layout (at aisle (back_end layout)) (from_back layout aisle far) (at aisle (back_end layout)) n) sum path
back_shape layout aisle far Z01 part t l live path shape = absurd (live refl)

-- what lay on the part lies on it still with a way from the back end
pub back_keeps : (layout : Layout) (aisle far : ℕ) (class : Class) (part : Part) (l : ℕ) (p : Point)
    → Path layout (at aisle (back_end layout)) (from_back layout aisle far) (at aisle (back_end layout)) l →
    OnPart layout aisle class part p → OnPart layout aisle (class_with_back class) (with_back layout aisle far class part) p
back_keeps layout aisle far UU1 part l p path on = on_second layout _ _ (from_back layout aisle far) part.first l p path on
back_keeps layout aisle far E01 part l p path on = on_second layout _ _ (from_back layout aisle far) part.first l p path on
back_keeps layout aisle far ZE1 part l p path on = inr on
back_keeps layout aisle far EE1 part l p path (inl on) = inl (on_second layout _ _ (from_back layout aisle far) part.first l p path on)
back_keeps layout aisle far EE1 part l p path (inr on) = inr on
back_keeps layout aisle far EE2 part l p path (inl on) = inl (on_second layout _ _ (from_back layout aisle far) part.first l p path on)
back_keeps layout aisle far EE2 part l p path (inr on) = inr on
back_keeps layout aisle far Z00 part l p path on = absurd on
back_keeps layout aisle far Z01 part l p path on = on

-- what lies on the way from the back end lies on the part with it
pub back_adds : (layout : Layout) (aisle far : ℕ) (class : Class) (part : Part) (p : Point) → (class ≡ Z01 → ⊥)
    → On (at aisle (back_end layout)) (from_back layout aisle far) p →
    OnPart layout aisle (class_with_back class) (with_back layout aisle far class part) p
back_adds layout aisle far UU1 part p live on = on_first _ (from_back layout aisle far) part.first p on
back_adds layout aisle far E01 part p live on = on_first _ (from_back layout aisle far) part.first p on
back_adds layout aisle far ZE1 part p live on = inl on
back_adds layout aisle far EE1 part p live on = inl (on_first _ (from_back layout aisle far) part.first p on)
back_adds layout aisle far EE2 part p live on = inl (on_first _ (from_back layout aisle far) part.first p on)
back_adds layout aisle far Z00 part p live on = on
back_adds layout aisle far Z01 part p live on = absurd (live refl)

-- the class with a way from the front end
abbrev pub class_with_front : Class → Class
class_with_front UU1 = UU1
class_with_front E01 = EE2
class_with_front ZE1 = ZE1
class_with_front EE1 = EE1
class_with_front EE2 = EE2
class_with_front Z00 = ZE1
class_with_front Z01 = Z01

-- with a way from the front end the paths run as the class with it says, and are longer by the way
pub front_shape : (layout : Layout) (aisle near : ℕ) (class : Class) (part : Part) (t l : ℕ) → (class ≡ Z01 → ⊥)
    → Path layout (at aisle 0) (from_front aisle near) (at aisle 0) l →
    Shape layout aisle class part t → Shape layout aisle (class_with_front class) (with_front aisle near class part) (t + l)
front_shape layout aisle near UU1 part t l live path shape = path_join layout _ _ _ part.first (from_front aisle near) t l shape path
front_shape layout aisle near E01 part t l live path shape = (t, l, shape, path, refl)
front_shape layout aisle near ZE1 part t l live path shape = path_join layout _ _ _ part.first (from_front aisle near) t l shape path
front_shape layout aisle near EE1 part t l live path (s, r, one, two, total) =
    (s + l, r, path_join layout _ _ _ part.first (from_front aisle near) s l one path, two, omega (arith, total))
front_shape layout aisle near EE2 part t l live path (s, r, one, two, total) =
    (s, r + l, one, path_join layout _ _ _ part.second (from_front aisle near) r l two path, omega (arith, total))
front_shape layout aisle near Z00 part t l live path shape =
    let sum : l ≡ t + l = omega (arith, shape) in
    subst (λ (n : ℕ). Path layout (at aisle 0) (from_front aisle near) (at aisle 0) n) sum path
front_shape layout aisle near Z01 part t l live path shape = absurd (live refl)

-- what lay on the part lies on it still with a way from the front end
pub front_keeps : (layout : Layout) (aisle near : ℕ) (class : Class) (part : Part) (p : Point) → OnPart layout aisle class part p
    → OnPart layout aisle (class_with_front class) (with_front aisle near class part) p
front_keeps layout aisle near UU1 part p on = on_first _ part.first (from_front aisle near) p on
front_keeps layout aisle near E01 part p on = inl on
front_keeps layout aisle near ZE1 part p on = on_first _ part.first (from_front aisle near) p on
front_keeps layout aisle near EE1 part p (inl on) = inl (on_first _ part.first (from_front aisle near) p on)
front_keeps layout aisle near EE1 part p (inr on) = inr on
front_keeps layout aisle near EE2 part p (inl on) = inl on
front_keeps layout aisle near EE2 part p (inr on) = inr (on_first _ part.second (from_front aisle near) p on)
front_keeps layout aisle near Z00 part p on = absurd on
front_keeps layout aisle near Z01 part p on = on

-- what lies on the way from the front end lies on the part with it
pub front_adds : (layout : Layout) (aisle near : ℕ) (class : Class) (part : Part) (t : ℕ) (p : Point) → (class ≡ Z01 → ⊥) → Shape layout aisle class part t
    → On (at aisle 0) (from_front aisle near) p →
    OnPart layout aisle (class_with_front class) (with_front aisle near class part) p
front_adds layout aisle near UU1 part t p live shape on = on_second layout _ _ part.first (from_front aisle near) t p shape on
front_adds layout aisle near E01 part t p live shape on = inr on
front_adds layout aisle near ZE1 part t p live shape on = on_second layout _ _ part.first (from_front aisle near) t p shape on
front_adds layout aisle near EE1 part t p live (s, r, one, two, total) on = inl (on_second layout _ _ part.first (from_front aisle near) s p one on)
front_adds layout aisle near EE2 part t p live (s, r, one, two, total) on = inr (on_second layout _ _ part.second (from_front aisle near) r p two on)
front_adds layout aisle near Z00 part t p live shape on = on
front_adds layout aisle near Z01 part t p live shape on = absurd (live refl)
