-- The lengths that are carried, and what summaries tell: the laws.
use Rattle.std.proofs.Common.{◌≡◌, ℕ, ◌+◌, ◌-◌, ◌<◌, ◌≤◌, List, arith, refl, subst}
use Rattle.wp_model.specs.declared.point.Point.{Point}
use Rattle.wp_model.specs.Warehouse.{Layout}
use Rattle.wp_fast.specs.declared.summary.Summary.{Summary}
use Rattle.wp_fast.specs.Laws.{CarriedLengthsAreTold, LastLengthsAreTold, SteppingIsComposing}
use Rattle.wp_fast.specs.Lengths.{ends, on_from}
use Rattle.wp_fast.specs.Passages.{AreLeast, IsComposed, Then}
use Rattle.wp_fast.specs.Runs.{PastRun}
use Rattle.wp_fast.proofs.Carrying.{behind_last, behind_run, carried_to}
use Rattle.wp_fast.proofs.Composing.{composed_least, least_alike, least_past, told_past}
use Rattle.wp_fast.proofs.JoinedRuns.{run_parts, runs_join}

-- the least lengths past a run to the end are what its summary tells
pub carried_told : CarriedLengthsAreTold
carried_told layout picks aisle behind carried are = (
  λ past. record {
    least = λ class begun. told_past (PastRun layout picks (layout.aisles + 1 - aisle) aisle) behind class (on_from carried class) are (past.least class begun);
  },
  λ told. record {
    least = λ class begun. least_past (PastRun layout picks (layout.aisles + 1 - aisle) aisle) behind class (on_from carried class) are
        (told.least class begun);
  },
)

-- before the last needed aisle
pub last_told : LastLengthsAreTold
last_told layout picks last behind carried up needed none far have =
    (carried_told layout picks last behind carried far).0 (carried_to layout picks last _ ends carried refl (behind_last layout picks last up needed none) have)

-- a summary that is composed of those of a run and of all behind it has the least lengths past both
past_both : (layout : Layout) (picks : List Point) (aisle later : ℕ) (run behind both : Summary) → aisle < later → later ≤ layout.aisles →
    AreLeast (PastRun layout picks (later - aisle) aisle) run → AreLeast (PastRun layout picks (layout.aisles + 1 - later) later) behind →
    IsComposed run behind both → AreLeast (PastRun layout picks (layout.aisles + 1 - aisle) aisle) both
past_both layout picks aisle later run behind both order last near far composed =
    let m : ℕ = later - aisle in
    let n : ℕ = layout.aisles + 1 - later in
    let at : later ≡ aisle + m = omega (arith, order) in
    let count : m + n ≡ layout.aisles + 1 - aisle = omega (arith, order, last) in
    let from : AreLeast (PastRun layout picks n (aisle + m)) behind = subst (λ (a : ℕ). AreLeast (PastRun layout picks n a) behind) at far in
    subst (λ (k : ℕ). AreLeast (PastRun layout picks k aisle) both) count
    (least_alike (Then (PastRun layout picks m aisle) (PastRun layout picks n (aisle + m))) (PastRun layout picks (m + n) aisle) both
    (runs_join layout picks m n aisle) (run_parts layout picks m n aisle)
    (composed_least (PastRun layout picks m aisle) (PastRun layout picks n (aisle + m)) run behind both near from composed))

-- the step from one needed aisle to the one before it
pub stepping_composes : SteppingIsComposing
stepping_composes layout picks aisle later run behind both carried stepped are last near far composed told have =
    let past = (carried_told layout picks later behind carried far).1 told in
    let here = carried_to layout picks aisle _ _ stepped refl (behind_run layout picks aisle later _ carried are last refl past) have in
    (carried_told layout picks aisle both stepped (past_both layout picks aisle later run behind both are.order last near far composed)).0 here
