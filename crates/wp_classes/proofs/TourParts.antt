-- The part of a tour with one more way or crossing is one still: its paths run as its class says, and pass all that
-- is needed so far.
use Rattle.std.proofs.Common.{◌≡◌, ℕ, suc, ◌+◌, ◌-◌, ◌*◌, ◌≤◌, ◌<◌, List, ◌∷◌, ◌++◌, Some, length, arith, refl, sym, ◌∙◌, ap, subst, inl, inr, ⊎_elim}
use Rattle.std.specs.List.{range_with_len}
use Rattle.std.proofs.lemmas.Bool.{cases_eq}
use Rattle.std.proofs.lemmas.Option.{get_or_from_slice_get, none-some, same_Some, slice_get_within}
use Rattle.wp_model.proofs.Elements.{at_some}
use Rattle.wp_model.proofs.Sums.{sum-grows}
use Rattle.wp_model.specs.declared.point.Point.{Point}
use Rattle.wp_model.specs.Warehouse.{Layout, IsUpTo, back_end, depot_point, spacing_after, step_length}
use Rattle.wp_graph.specs.AisleLengths.{ways_of}
use Rattle.wp_graph.specs.PickSets.{AreSlots}
use Rattle.wp_graph.specs.Required.{IsAscending, aisle_length, is_required, required_places, site_places}
use Rattle.wp_graph.specs.Sites.{site_of}
use Rattle.wp_graph.specs.Members.{Among}
use Rattle.wp_graph.proofs.Ends.{end_within}
use Rattle.wp_graph.proofs.AscendingNumbers.{first_least, last_most, neighbours_ascend, neighbours_part, places_ascend}
use Rattle.wp_graph.proofs.WayBounds.{required_within}
use Rattle.wp_graph.proofs.PointTests.{among_has}
use Rattle.wp_graph.proofs.Members.{Contains-from_among, among-append_right, among-filter, among-range, among_at}
use Rattle.wp_classes.specs.declared.class.Class.{Class}
use Rattle.wp_classes.specs.declared.class.Class.TheVariants.{UU1, E01, ZE1, EE1, EE2, Z00, Z01}
use Rattle.wp_classes.specs.declared.class.Way.{Way}
use Rattle.wp_classes.specs.declared.class.Way.TheVariants.{Pass, Back, Front, Gap, Double, Skip}
use Rattle.wp_classes.specs.declared.class.Cross.{Cross}
use Rattle.wp_classes.specs.Choices.{TakesCross, TakesWay}
use Rattle.wp_classes.specs.Parts.{AreTurns, Part, class_with_back, class_with_pass, with_back, with_cross, with_front, with_pass, with_way}
use Rattle.wp_classes.specs.Paths.{at}
use Rattle.wp_classes.specs.Tables.{class_after_cross, class_after_way, copies}
use Rattle.wp_classes.specs.Rounds.{IsNeeded, IsPart, OnPart, Shape}
use Rattle.wp_classes.proofs.CrossedParts.{cross_keeps, cross_shape, crossways}
use Rattle.wp_classes.proofs.AisleParts.{back_adds, back_keeps, back_shape, class_with_front, front_adds, front_keeps, front_shape, pass_adds, pass_keeps}
use Rattle.wp_classes.proofs.AisleParts.{pass_shape}
use Rattle.wp_classes.proofs.AislePaths.{back_path, front_path, on_from_back, on_from_front}
use Rattle.wp_classes.proofs.WayLengths.{back_is, double_is, front_is, gap_is, pass_is, skip_is}

-- each needed point is a required place of its aisle
pub needed_place : (layout : Layout) (picks : List Point) (p : Point) → AreSlots layout picks → IsNeeded layout picks p
    → Among (required_places layout picks p.aisle) p.slot
unfolding site_places
needed_place layout picks p are needed =
    let within : p.slot < layout.slots + 2 = ⊎_elim
    (λ (e : depot_point layout ≡ p). omega (arith, ap (λ (q : Point). q.slot) e, end_within (back_end layout) layout.end))
    (λ (h : Among picks p). let s = (are.slots p (Contains-from_among picks p h)).slot in omega (arith, s))
    needed in
    among-filter (is_required layout picks p.aisle) (range_with_len 0 (layout.slots + 2)) p.slot
    (among-range 0 (layout.slots + 2) p.slot (omega arith) (omega (arith, within))) (among_has (depot_point layout ∷ picks) p needed)

-- with each required place of its aisle a part serves the aisle
served_with : (layout : Layout) (picks : List Point) (aisle before : ℕ) (class next : Class) (part more : Part) → AreSlots layout picks → aisle ≡ suc before →
    ((p : Point) → IsNeeded layout picks p → p.aisle ≤ before → OnPart layout aisle class part p)
    → ((p : Point) → OnPart layout aisle class part p → OnPart layout aisle next more p) →
    ((s : ℕ) → Among (required_places layout picks aisle) s → OnPart layout aisle next more (at aisle s)) → (p : Point) → IsNeeded layout picks p
    → p.aisle ≤ aisle → OnPart layout aisle next more p
served_with layout picks aisle before class next part more are is serves keeps adds p needed high =
    ⊎_elim
    (λ (e : p.aisle ≡ aisle).
    let place : Among (required_places layout picks aisle) p.slot =
    subst (λ a. Among (required_places layout picks a) p.slot) e (needed_place layout picks p are needed) in
    subst (λ a. OnPart layout aisle next more (at a p.slot)) (sym e) (adds p.slot place))
    (λ ne. keeps p (serves p needed (omega arith)))
    (cases_eq p.aisle aisle)

-- the class with a way by its table
way_next : (class next : Class) (way : Way) (made : Class) → class_after_way class way ≡ Some next → (class_after_way class way ≡ Some made) → made ≡ next
way_next class next way made one other = same_Some _ _ (sym other ∙ one)

live_way : (class next : Class) (way : Way) → class_after_way class way ≡ Some next → (way ≡ Skip → ⊥) → class ≡ Z01 → ⊥
live_way class next Pass allowed moves e = none-some _ (subst (λ c. class_after_way c Pass ≡ Some next) e allowed)
live_way class next Back allowed moves e = none-some _ (subst (λ c. class_after_way c Back ≡ Some next) e allowed)
live_way class next Front allowed moves e = none-some _ (subst (λ c. class_after_way c Front ≡ Some next) e allowed)
live_way class next Gap allowed moves e = none-some _ (subst (λ c. class_after_way c Gap ≡ Some next) e allowed)
live_way class next Double allowed moves e = none-some _ (subst (λ c. class_after_way c Double ≡ Some next) e allowed)
live_way class next Skip allowed moves e = moves refl

-- the tables by what the ways add
pass_table : (class : Class) → (class ≡ Z01 → ⊥) → class_after_way class Pass ≡ Some (class_with_pass class)
pass_table UU1 live = refl
pass_table E01 live = refl
pass_table ZE1 live = refl
pass_table EE1 live = refl
pass_table EE2 live = refl
pass_table Z00 live = refl
pass_table Z01 live = absurd (live refl)

back_table : (class : Class) → (class ≡ Z01 → ⊥) → class_after_way class Back ≡ Some (class_with_back class)
back_table UU1 live = refl
back_table E01 live = refl
back_table ZE1 live = refl
back_table EE1 live = refl
back_table EE2 live = refl
back_table Z00 live = refl
back_table Z01 live = absurd (live refl)

front_table : (class : Class) → (class ≡ Z01 → ⊥) → class_after_way class Front ≡ Some (class_with_front class)
front_table UU1 live = refl
front_table E01 live = refl
front_table ZE1 live = refl
front_table EE1 live = refl
front_table EE2 live = refl
front_table Z00 live = refl
front_table Z01 live = absurd (live refl)

gap_table : (class : Class) → (class ≡ Z01 → ⊥) → class_after_way class Gap ≡ Some (class_with_front (class_with_back class))
gap_table UU1 live = refl
gap_table E01 live = refl
gap_table ZE1 live = refl
gap_table EE1 live = refl
gap_table EE2 live = refl
gap_table Z00 live = refl
gap_table Z01 live = absurd (live refl)

double_table : (class : Class) → (class ≡ Z01 → ⊥) → class_after_way class Double ≡ Some (class_with_pass (class_with_pass class))
double_table UU1 live = refl
double_table E01 live = refl
double_table ZE1 live = refl
double_table EE1 live = refl
double_table EE2 live = refl
double_table Z00 live = refl
double_table Z01 live = absurd (live refl)

skip_table : (class : Class) → class_after_way class Skip ≡ Some class
skip_table UU1 = refl
skip_table E01 = refl
skip_table ZE1 = refl
skip_table EE1 = refl
skip_table EE2 = refl
skip_table Z00 = refl
skip_table Z01 = refl

-- a class with a way is alive where the class was
alive_pass : (class : Class) → (class ≡ Z01 → ⊥) → class_with_pass class ≡ Z01 → ⊥
alive_pass UU1 live e = cc
alive_pass E01 live e = cc
alive_pass ZE1 live e = cc
alive_pass EE1 live e = cc
alive_pass EE2 live e = cc
alive_pass Z00 live e = cc
alive_pass Z01 live e = live refl

alive_back : (class : Class) → (class ≡ Z01 → ⊥) → class_with_back class ≡ Z01 → ⊥
alive_back UU1 live e = cc
alive_back E01 live e = cc
alive_back ZE1 live e = cc
alive_back EE1 live e = cc
alive_back EE2 live e = cc
alive_back Z00 live e = cc
alive_back Z01 live e = live refl

-- what is known where a way is taken
pub record IsTaking (layout : Layout) (picks : List Point) (aisle before near far : ℕ) (class : Class) (part : Part) (total : ℕ) (way : Way) : Type 0 where
  pub are : AreSlots layout picks
  pub within : IsUpTo layout.aisles aisle
  pub behind : aisle ≡ suc before
  pub part_is : IsPart layout picks aisle before class part total
  pub turns : AreTurns layout picks aisle way near far

-- a part with a way through the aisle
pub way_part : (layout : Layout) (picks : List Point) (aisle before near far : ℕ) (class next : Class) (way : Way) (part : Part) (total w : ℕ)
    → IsTaking layout picks aisle before near far class part total way →
    TakesWay (ways_of layout picks aisle) way class next w → IsPart layout picks aisle aisle next (with_way layout aisle near far class way part) (total + w)
way_part layout picks aisle before near far class next Pass part total w h takes =
    let live = live_way class next Pass takes.allowed (λ e. cc) in
    let same = way_next class next Pass (class_with_pass class) takes.allowed (pass_table class live) in
    let length = pass_is layout picks aisle w takes.applies in
    let made : IsPart layout picks aisle aisle (class_with_pass class) (with_pass layout aisle class part) (total + w) = record {
      shape = subst (λ n. Shape layout aisle (class_with_pass class) (with_pass layout aisle class part) (total + n)) (sym length)
          (pass_shape layout aisle class part total h.within live h.part_is.shape);
      serves = served_with layout picks aisle before class (class_with_pass class) part (with_pass layout aisle class part) h.are h.behind h.part_is.serves
          (λ p on. pass_keeps layout aisle class part total p h.within h.part_is.shape on)
          (λ s place. pass_adds layout aisle class part total s h.within live h.part_is.shape (required_within layout picks aisle s place));
    } in
    subst (λ c. IsPart layout picks aisle aisle c (with_pass layout aisle class part) (total + w)) same made
way_part layout picks aisle before near far class next Back part total w h takes =
    let live = live_way class next Back takes.allowed (λ e. cc) in
    let same = way_next class next Back (class_with_back class) takes.allowed (back_table class live) in
    let up = places_ascend (site_of layout) picks aisle in
    let first = required_within layout picks aisle far (among_at (required_places layout picks aisle) 0 far 0
    (slice_get_within (required_places layout picks aisle) 0 far h.turns)
    (get_or_from_slice_get (required_places layout picks aisle) 0 far 0 h.turns)) in
    let path = back_path layout aisle far h.within first in
    let length : path.0 ≡ w = omega (arith, path.2, back_is layout picks aisle far w takes.applies h.turns) in
    let made : IsPart layout picks aisle aisle (class_with_back class) (with_back layout aisle far class part) (total + w) = record {
      shape = subst (λ n. Shape layout aisle (class_with_back class) (with_back layout aisle far class part) (total + n)) length
          (back_shape layout aisle far class part total path.0 live path.1 h.part_is.shape);
      serves = served_with layout picks aisle before class (class_with_back class) part (with_back layout aisle far class part) h.are h.behind h.part_is.serves
          (λ p on. back_keeps layout aisle far class part path.0 p path.1 on)
          (λ s place. back_adds layout aisle far class part (at aisle s) live
          (on_from_back layout aisle far s (first_least _ far s up h.turns place) (required_within layout picks aisle s place)));
    } in
    subst (λ c. IsPart layout picks aisle aisle c (with_back layout aisle far class part) (total + w)) same made
way_part layout picks aisle before near far class next Front part total w h takes =
    let live = live_way class next Front takes.allowed (λ e. cc) in
    let same = way_next class next Front (class_with_front class) takes.allowed (front_table class live) in
    let up = places_ascend (site_of layout) picks aisle in
    let places = required_places layout picks aisle in
    let last = required_within layout picks aisle near (among_at places (length places - 1) near 0 (slice_get_within places (length places - 1) near h.turns)
    (get_or_from_slice_get places (length places - 1) near 0 h.turns)) in
    let path = front_path layout aisle near h.within last in
    let length : path.0 ≡ w = omega (arith, path.2, front_is layout picks aisle near w takes.applies h.turns) in
    let made : IsPart layout picks aisle aisle (class_with_front class) (with_front aisle near class part) (total + w) = record {
      shape = subst (λ n. Shape layout aisle (class_with_front class) (with_front aisle near class part) (total + n)) length
          (front_shape layout aisle near class part total path.0 live path.1 h.part_is.shape);
      serves = served_with layout picks aisle before class (class_with_front class) part (with_front aisle near class part) h.are h.behind h.part_is.serves
          (λ p on. front_keeps layout aisle near class part p on)
          (λ s place. front_adds layout aisle near class part total (at aisle s) live h.part_is.shape
          (on_from_front aisle near s (last_most _ near s up h.turns place)));
    } in
    subst (λ c. IsPart layout picks aisle aisle c (with_front aisle near class part) (total + w)) same made
way_part layout picks aisle before near far class next Gap part total w h takes =
    let live = live_way class next Gap takes.allowed (λ e. cc) in
    let same = way_next class next Gap (class_with_front (class_with_back class)) takes.allowed (gap_table class live) in
    let pair = h.turns.0 in
    let up : IsAscending (pair.before ++ near ∷ far ∷ pair.after) = subst (λ xs. IsAscending xs) pair.places_are (places_ascend (site_of layout) picks aisle) in
    let order = neighbours_ascend pair.before pair.after near far up in
    let far_in = required_within layout picks aisle far (subst (λ xs. Among xs far) (sym pair.places_are)
    (among-append_right pair.before (near ∷ far ∷ pair.after) far (inr (inl refl)))) in
    let back = back_path layout aisle far h.within far_in in
    let front = front_path layout aisle near h.within (omega arith) in
    let rises = sum-grows near far (step_length layout) (omega arith) in
    let reaches = sum-grows far (back_end layout) (step_length layout) far_in in
    let length : back.0 + front.0 ≡ w = omega (arith, back.2, front.2, gap_is layout picks aisle w takes.applies, h.turns.1, rises, reaches) in
    let middle = with_back layout aisle far class part in
    let alive = alive_back class live in
    let shape = back_shape layout aisle far class part total back.0 live back.1 h.part_is.shape in
    let whole : total + back.0 + front.0 ≡ total + w = omega (arith, length) in
    let made : IsPart layout picks aisle aisle (class_with_front (class_with_back class)) (with_front aisle near (class_with_back class) middle) (total + w) =
    record {
      shape = subst (λ n. Shape layout aisle (class_with_front (class_with_back class)) (with_front aisle near (class_with_back class) middle) n) whole
          (front_shape layout aisle near (class_with_back class) middle (total + back.0) front.0 alive front.1 shape);
      serves = served_with layout picks aisle before class (class_with_front (class_with_back class)) part
          (with_front aisle near (class_with_back class) middle) h.are h.behind h.part_is.serves
          (λ p on. front_keeps layout aisle near (class_with_back class) middle p (back_keeps layout aisle far class part back.0 p back.1 on))
          (λ s place. ⊎_elim
          (λ (low : s ≤ near). front_adds layout aisle near (class_with_back class) middle (total + back.0) (at aisle s) alive shape
          (on_from_front aisle near s low))
          (λ (high : far ≤ s). front_keeps layout aisle near (class_with_back class) middle (at aisle s)
          (back_adds layout aisle far class part (at aisle s) live (on_from_back layout aisle far s high (required_within layout picks aisle s place))))
          (neighbours_part pair.before pair.after near far s up (subst (λ xs. Among xs s) pair.places_are place)));
    } in
    subst (λ c. IsPart layout picks aisle aisle c (with_front aisle near (class_with_back class) middle) (total + w)) same made
way_part layout picks aisle before near far class next Double part total w h takes =
    let live = live_way class next Double takes.allowed (λ e. cc) in
    let same = way_next class next Double (class_with_pass (class_with_pass class)) takes.allowed (double_table class live) in
    let once = with_pass layout aisle class part in
    let shape = pass_shape layout aisle class part total h.within live h.part_is.shape in
    let alive = alive_pass class live in
    let whole : total + aisle_length layout + aisle_length layout ≡ total + w = omega (arith, double_is layout picks aisle w takes.applies) in
    let made : IsPart layout picks aisle aisle (class_with_pass (class_with_pass class)) (with_pass layout aisle (class_with_pass class) once) (total + w) =
    record {
      shape = subst (λ n. Shape layout aisle (class_with_pass (class_with_pass class)) (with_pass layout aisle (class_with_pass class) once) n) whole
          (pass_shape layout aisle (class_with_pass class) once (total + aisle_length layout) h.within alive shape);
      serves = served_with layout picks aisle before class (class_with_pass (class_with_pass class)) part
          (with_pass layout aisle (class_with_pass class) once) h.are h.behind h.part_is.serves
          (λ p on. pass_keeps layout aisle (class_with_pass class) once (total + aisle_length layout) p h.within shape
          (pass_keeps layout aisle class part total p h.within h.part_is.shape on))
          (λ s place. pass_adds layout aisle (class_with_pass class) once (total + aisle_length layout) s h.within alive shape
          (required_within layout picks aisle s place));
    } in
    subst (λ c. IsPart layout picks aisle aisle c (with_pass layout aisle (class_with_pass class) once) (total + w)) same made
way_part layout picks aisle before near far class next Skip part total w h takes =
    let same = way_next class next Skip class takes.allowed (skip_table class) in
    let none = skip_is layout picks aisle w takes.applies in
    let whole : total ≡ total + w = omega (arith, none.0) in
    let made : IsPart layout picks aisle aisle class part (total + w) = record {
      shape = subst (λ n. Shape layout aisle class part n) whole h.part_is.shape;
      serves = served_with layout picks aisle before class class part part h.are h.behind h.part_is.serves (λ p on. on)
          (λ s place. absurd (subst (λ xs. Among xs s) none.1 place));
    } in
    subst (λ c. IsPart layout picks aisle aisle c part (total + w)) same made

-- a part with a crossing to the next aisle
pub cross_part : (layout : Layout) (picks : List Point) (aisle : ℕ) (class next : Class) (cross : Cross) (part : Part) (total across : ℕ) → 1 ≤ aisle
    → aisle < layout.aisles → IsPart layout picks aisle aisle class part total →
    TakesCross (spacing_after layout aisle) cross class next across
    → IsPart layout picks (suc aisle) aisle next (with_cross layout aisle class cross part) (total + across)
cross_part layout picks aisle class next cross part total across low high is takes =
    let whole : copies cross * spacing_after layout aisle + total ≡ total + across = omega (arith, takes.length_is) in
    record {
      shape = subst (λ n. Shape layout (suc aisle) next (with_cross layout aisle class cross part) n) whole
          (at_some (class_after_cross class cross) (λ c. Shape layout (suc aisle) c (with_cross layout aisle class cross part)
          (copies cross * spacing_after layout aisle + total)) next takes.allowed
          (cross_shape layout aisle class cross part total (crossways layout aisle low high) is.shape));
      serves = λ p needed near. at_some (class_after_cross class cross)
          (λ c. OnPart layout (suc aisle) c (with_cross layout aisle class cross part) p) next takes.allowed
          (cross_keeps layout aisle class cross part total p is.shape (is.serves p needed near));
    }
