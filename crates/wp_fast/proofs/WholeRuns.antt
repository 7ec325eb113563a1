-- The run past all aisles, and how a tour goes on from the first aisle to its end.
use Rattle.std.proofs.Common.{◌≡◌, ℕ, zero, suc, ◌+◌, ◌-◌, ◌<◌, ◌≤◌, IsTrue, List, Option, arith, refl, subst, sym}
use Rattle.wp_model.specs.declared.point.Point.{Point}
use Rattle.wp_model.specs.Warehouse.{IsUpTo, Layout}
use Rattle.wp_classes.specs.declared.class.Class.{Class}
use Rattle.wp_classes.specs.declared.class.Class.TheVariants.{Z00}
use Rattle.wp_classes.specs.Choices.{block_of}
use Rattle.wp_classes.specs.Onward.{IsLeastOf}
use Rattle.wp_classes.specs.Tables.{is_whole}
use Rattle.wp_classes.proofs.Leasts.{least_like}
use Rattle.wp_classes.proofs.Routes.{IsLeastFirst}
use Rattle.wp_fast.specs.Passages.{EndsFrom}
use Rattle.wp_fast.specs.Runs.{PastRun}
use Rattle.wp_fast.specs.Runs.PastAisle.{on, last}
use Rattle.wp_fast.proofs.JoinedRuns.{behind_run, first_run, run_behind, run_first}
use Rattle.wp_fast.proofs.PastAisles.{past_last, past_on}
use Rattle.wp_fast.proofs.Steps.{ThroughAndOn}

-- a run past all aisles from this one on that ends a tour is a way to go on
pub run_goes_on : (layout : Layout) (picks : List Point) (left aisle beyond : ℕ) (before after : Class) (t : ℕ) → aisle + left ≡ layout.aisles →
    PastRun layout picks (suc left + beyond) aisle before after t → IsTrue (is_whole after) → ThroughAndOn (block_of layout picks) left aisle before t
run_goes_on layout picks zero aisle beyond before after t all run whole =
    let count : suc 0 + beyond ≡ suc beyond = omega arith in
    let step = run_first layout picks beyond aisle before after t (subst (λ (k : ℕ). PastRun layout picks k aisle before after t) count run) in
    let rest = step.1 in
    let by = past_last layout picks aisle before step.0 rest.0 (omega (arith, all)) rest.2 in
    let stays = run_behind layout picks beyond (suc aisle) step.0 after rest.1 (omega (arith, all)) rest.3 in
    (by.0, (step.0, rest.0, 0, by.1, (subst (λ (c : Class). IsTrue (is_whole c)) (sym stays.0) whole, refl), omega (arith, rest.4, stays.1)))
run_goes_on layout picks (suc left) aisle beyond before after t all run whole =
    let count : suc (suc left) + beyond ≡ suc (suc left + beyond) = omega arith in
    let step = run_first layout picks (suc left + beyond) aisle before after t (subst (λ (k : ℕ). PastRun layout picks k aisle before after t) count run) in
    let rest = step.1 in
    let passed = past_on layout picks aisle before step.0 rest.0 (omega (arith, all)) rest.2 in
    let parts = passed.1 in
    let by = parts.2 in
    let over = parts.3 in
    let onward = run_goes_on layout picks left (suc aisle) beyond step.0 after rest.1 (omega (arith, all)) rest.3 whole in (
      by.0,
      (
        passed.0,
        parts.0,
        parts.1 + rest.1,
        by.1,
        (over.0, (step.0, parts.1, rest.1, over.1, onward, omega arith)),
        omega (arith, rest.4, parts.4),
      ),
    )

-- a way to go on is such a run
pub goes_on_run : (layout : Layout) (picks : List Point) (left aisle beyond : ℕ) (before : Class) (t : ℕ) → aisle + left ≡ layout.aisles →
    ThroughAndOn (block_of layout picks) left aisle before t → EndsFrom (PastRun layout picks (suc left + beyond) aisle) before t
goes_on_run layout picks zero aisle beyond before t all (way, (next, through, rest, takes, (whole, none), total)) =
    let count : suc beyond ≡ suc 0 + beyond = omega arith in (
      next,
      whole,
      subst (λ (k : ℕ). PastRun layout picks k aisle before next t) count
          (first_run layout picks beyond aisle before next t (
            next,
            (
              through,
              0,
              last (omega (arith, all)) (way, takes),
              behind_run layout picks beyond (suc aisle) next (omega (arith, all)),
              omega
                  (arith, total, none),
            ),
          )),
    )
goes_on_run layout picks (suc left) aisle beyond before t all (way, (mid, through, rest, takes, (cross, (next, across, far, crosses, onward, some)), total)) =
    let count : suc (suc left + beyond) ≡ suc (suc left) + beyond = omega arith in
    let later = goes_on_run layout picks left (suc aisle) beyond next far (omega (arith, all)) onward in (
      later.0,
      later.1,
      subst (λ (k : ℕ). PastRun layout picks k aisle before later.0 t) count
          (first_run layout picks (suc left + beyond) aisle before later.0 t (
            next,
            (
              through + across,
              far,
              on (omega (arith, all)) (mid, (through, across, (way, takes), (cross, crosses), refl)),
              later.2,
              omega (arith, some, total),
            ),
          )),
    )

-- the ways to go on from an aisle, and the runs past it and at least all behind it
pub run_from_on : (layout : Layout) (picks : List Point) (aisle count : ℕ) (class : Class) (t : ℕ) → aisle ≤ layout.aisles → layout.aisles < aisle + count
    → ThroughAndOn (block_of layout picks) (layout.aisles - aisle) aisle class t → EndsFrom (PastRun layout picks count aisle) class t
run_from_on layout picks aisle count class t up fits onward =
    let beyond : ℕ = aisle + count - layout.aisles - 1 in
    let all : suc (layout.aisles - aisle) + beyond ≡ count = omega (arith, up, fits) in
    let run = goes_on_run layout picks (layout.aisles - aisle) aisle beyond class t (omega (arith, up)) onward in
    (run.0, run.1, subst (λ (k : ℕ). PastRun layout picks k aisle class run.0 t) all run.2)

pub on_from_run : (layout : Layout) (picks : List Point) (aisle count : ℕ) (class : Class) (t : ℕ) → aisle ≤ layout.aisles → layout.aisles < aisle + count
    → EndsFrom (PastRun layout picks count aisle) class t → ThroughAndOn (block_of layout picks) (layout.aisles - aisle) aisle class t
on_from_run layout picks aisle count class t up fits (after, whole, run) =
    let beyond : ℕ = aisle + count - layout.aisles - 1 in
    let all : count ≡ suc (layout.aisles - aisle) + beyond = omega (arith, up, fits) in
    run_goes_on layout picks (layout.aisles - aisle) aisle beyond class after t (omega (arith, up))
    (subst (λ (k : ℕ). PastRun layout picks k aisle class after t) all run) whole

-- the least length to the end past all aisles is the least length of all ways to go on from the first aisle
pub first_of_run : (layout : Layout) (picks : List Point) (count : ℕ) (least : Option ℕ) → IsUpTo count layout.aisles
    → IsLeastOf (EndsFrom (PastRun layout picks count 1) Z00) least → IsLeastFirst (block_of layout picks) (layout.aisles - 1) least
first_of_run layout picks count least fits is = record {
  is = least_like (EndsFrom (PastRun layout picks count 1) Z00) (ThroughAndOn (block_of layout picks) (layout.aisles - 1) 1 Z00) least
      (λ t h. on_from_run layout picks 1 count Z00 t fits.0 (omega (arith, fits.1)) h)
      (λ t h. run_from_on layout picks 1 count Z00 t fits.0 (omega (arith, fits.1)) h) is;
}
