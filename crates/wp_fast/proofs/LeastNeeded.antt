-- The least lengths over a run of aisles that aren't needed, and through the needed aisle before it.
use Rattle.std.proofs.Common.{◌≡◌, ℕ, ◌+◌, ◌*◌, ◌-◌, ◌≤◌, ◌↔◌, ◌⊎◌, min, IsTrue, Option, Some, None, arith, refl, ◌∙◌, ap, subst}
use Rattle.std.proofs.lemmas.Bool.{false≢true}
use Rattle.wp_model.specs.Sums.{sum_below}
use Rattle.wp_graph.specs.declared.ways.AisleWays.{AisleWays}
use Rattle.wp_classes.specs.declared.class.Class.{Class}
use Rattle.wp_classes.specs.declared.class.Class.TheVariants.{UU1, E01, ZE1, EE1, EE2, Z00, Z01}
use Rattle.wp_classes.specs.Choices.{Block}
use Rattle.wp_classes.specs.Least.{length_at}
use Rattle.wp_classes.specs.Onward.{IsLeastOf, Through}
use Rattle.wp_classes.proofs.LeastLengths.{least_ways}
use Rattle.wp_classes.proofs.Leasts.{least_lesser, least_like, least_more}
use Rattle.wp_fast.specs.declared.lengths.NeededLengths.{NeededLengths}
use Rattle.wp_fast.specs.Lengths.{AreCarried, along_run, by_some_way, ends, on_from}
use Rattle.wp_fast.specs.SpareRuns.{AreNeighbours, NoneBetween}
use Rattle.wp_fast.proofs.Alone.{IsEven, over_run}
use Rattle.wp_fast.proofs.NoMore.{itself, least_between}
use Rattle.wp_fast.proofs.OverRuns.{Along, GoesOver, far, far_is, is_closed, to_end, to_needed}
use Rattle.wp_fast.proofs.Steps.{ThroughAndOn}
use Rattle.wp_fast.proofs.Walks.{through_on}

-- the least length by some way, and on
pub least_by_some : (on : Class → ℕ → Type 0) (ways : AisleWays) (least : Class → Option ℕ) → ((class : Class) → IsLeastOf (on class) (least class))
    → (class : Class) →
    IsLeastOf (Through on ways class) (by_some_way ways least class)
least_by_some on ways least are class = least_ways on ways
    (record { uu1 = least UU1; e01 = least E01; ze1 = least ZE1; ee1 = least EE1; ee2 = least EE2; z00 = least Z00; z01 = least Z01 }) class go
  where
    go : (next : Class) → IsLeastOf (on next)
        (length_at (record { uu1 = least UU1; e01 = least E01; ze1 = least ZE1; ee1 = least EE1; ee2 = least EE2; z00 = least Z00; z01 = least Z01 }) next)
    go UU1 = are UU1
    go E01 = are E01
    go ZE1 = are ZE1
    go EE1 = are EE1
    go EE2 = are EE2
    go Z00 = are Z00
    go Z01 = are Z01

-- through a needed aisle, and over the run behind it by crossings of one kind, is the least of all ways on
pub least_before : (whole : ℕ) (block : Block) → IsEven whole block → (left aisle : ℕ) → (block.ways aisle).skip ≡ None → (on : Class → Option ℕ) →
    ((class : Class) → IsLeastOf (λ t. GoesOver block left aisle 0 class t) (on class)) → (class : Class) →
    IsLeastOf (ThroughAndOn block left aisle class) (by_some_way (block.ways aisle) on class)
least_before whole block even left aisle none on are class =
    let Over : Class → ℕ → Type 0 = λ next more. GoesOver block left aisle 0 next more in
    least_between (Through Over (block.ways aisle) class) (ThroughAndOn block left aisle class) (by_some_way (block.ways aisle) on class)
    (λ t h. itself (ThroughAndOn block left aisle class) t (through_on whole block even left aisle class t h)) (over_run whole block even left aisle none class)
    (least_by_some Over (block.ways aisle) on are class)

-- the least lengths from the other end of a run
pub along_least : (on : Class → ℕ → Type 0) (span : ℕ) (lengths : NeededLengths) → AreCarried on lengths → (class : Class) →
    IsLeastOf (Along on span class) (on_from (along_run span lengths) class)
along_least on span lengths are UU1 = least_more (on UU1) (2 * span) (Some lengths.uu1) (are.least UU1 refl)
along_least on span lengths are E01 = least_more (on E01) (2 * span) (Some lengths.e01) (are.least E01 refl)
along_least on span lengths are ZE1 = least_more (on ZE1) (2 * span) (Some lengths.ze1) (are.least ZE1 refl)
along_least on span lengths are EE1 =
    let one = least_more (λ r. on E01 r ⊎ on ZE1 r) (2 * span) (Some (min lengths.e01 lengths.ze1))
    (least_lesser (on E01) (on ZE1) (Some lengths.e01) (Some lengths.ze1) (are.least E01 refl) (are.least ZE1 refl)) in
    let both = least_more (on EE1) (4 * span) (Some lengths.ee1) (are.least EE1 refl) in
    let same : min (2 * span + min lengths.e01 lengths.ze1) (4 * span + lengths.ee1)
    ≡ min (min (2 * span + lengths.e01) (2 * span + lengths.ze1)) (4 * span + lengths.ee1) = omega arith in
    subst (λ n. IsLeastOf (Along on span EE1) (Some n)) same
    (least_lesser (λ t. (r : ℕ) × (on E01 r ⊎ on ZE1 r) × (t ≡ 2 * span + r)) (λ t. (r : ℕ) × on EE1 r × (t ≡ 4 * span + r))
    (Some (2 * span + min lengths.e01 lengths.ze1)) (Some (4 * span + lengths.ee1)) one both)
along_least on span lengths are EE2 = least_more (on EE2) (4 * span) (Some lengths.ee2) (are.least EE2 refl)
along_least on span lengths are Z00 = λ t h. h
along_least on span lengths are Z01 = λ t h. h

-- from one needed aisle to the next
pub least_to_needed : (block : Block) (all aisle later : ℕ) (lengths : NeededLengths) → AreNeighbours block aisle later → later ≤ all →
    AreCarried (ThroughAndOn block (all - later) later) lengths → (class : Class) →
    IsLeastOf (λ t. GoesOver block (all - aisle) aisle 0 class t)
    (on_from (along_run (sum_below later block.spacing - sum_below aisle block.spacing) lengths) class)
least_to_needed block all aisle later lengths are last carried class =
    let span : ℕ = sum_below later block.spacing - sum_below aisle block.spacing in
    let between : ℕ = later - aisle - 1 in
    let count : aisle + between + 1 ≡ later = omega (arith, are.order) in
    let apart = far_is block.spacing between aisle ∙ ap (λ n. sum_below n block.spacing) count in
    let same : 0 + far block.spacing between aisle ≡ span = omega (arith, apart) in
    let runs : (t : ℕ) → GoesOver block (all - aisle) aisle 0 class t ↔ Along (ThroughAndOn block (all - later) later) span class t = λ t.
    subst (λ s. GoesOver block (all - aisle) aisle 0 class t ↔ Along (ThroughAndOn block (all - later) later) s class t) same
    (to_needed block between (all - aisle) (all - later) aisle later 0 (omega (arith, are.order, last))
    (omega (arith, are.order)) are.between are.there class t) in
    least_like (Along (ThroughAndOn block (all - later) later) span class) (λ t. GoesOver block (all - aisle) aisle 0 class t)
    (on_from (along_run span lengths) class) (λ t h. (runs t).1 h) (λ t h. (runs t).0 h)
    (along_least (ThroughAndOn block (all - later) later) span lengths carried class)

-- after the last needed aisle
pub least_to_end : (block : Block) (left aisle : ℕ) → NoneBetween block aisle (aisle + left + 1) → (class : Class) →
    IsLeastOf (λ t. GoesOver block left aisle 0 class t) (ends class)
least_to_end block left aisle none class = least_like (λ t. IsTrue (is_closed class) × (t ≡ 0)) (λ t. GoesOver block left aisle 0 class t) (ends class)
    (λ t h. (to_end block left aisle 0 none class t).1 h) (λ t h. (to_end block left aisle 0 none class t).0 h) (go class)
  where
    go : (class : Class) → IsLeastOf (λ t. IsTrue (is_closed class) × (t ≡ 0)) (ends class)
    go UU1 = λ t h. false≢true h.0
    go E01 = ((refl, refl), λ t h. omega arith)
    go ZE1 = ((refl, refl), λ t h. omega arith)
    go EE1 = ((refl, refl), λ t h. omega arith)
    go EE2 = λ t h. false≢true h.0
    go Z00 = λ t h. false≢true h.0
    go Z01 = λ t h. false≢true h.0
