-- Runs of aisles, one after another.
use Rattle.std.proofs.Common.{◌≡◌, ℕ, zero, suc, ◌+◌, ◌<◌, List, arith, refl, subst, sym, ◌∙◌}
use Rattle.wp_model.specs.declared.point.Point.{Point}
use Rattle.wp_model.specs.Warehouse.{Layout}
use Rattle.wp_classes.specs.declared.class.Class.{Class}
use Rattle.wp_fast.specs.Passages.{Stays, Then}
use Rattle.wp_fast.specs.Runs.{PastAisle, PastRun}
use Rattle.wp_fast.specs.Runs.PastAisle.{behind}
use Rattle.wp_fast.proofs.PastAisles.{past_behind}

-- past a first aisle and so many more
pub run_first : (layout : Layout) (picks : List Point) (more aisle : ℕ) (before after : Class) (t : ℕ) → PastRun layout picks (suc more) aisle before after t
    → Then (PastAisle layout picks aisle) (PastRun layout picks more (suc aisle)) before after t
unfolding PastRun
run_first layout picks more aisle before after t h = h

pub first_run : (layout : Layout) (picks : List Point) (more aisle : ℕ) (before after : Class) (t : ℕ)
    → Then (PastAisle layout picks aisle) (PastRun layout picks more (suc aisle)) before after t → PastRun layout picks (suc more) aisle before after t
unfolding PastRun
first_run layout picks more aisle before after t h = h

-- past no aisle
pub run_none : (layout : Layout) (picks : List Point) (aisle : ℕ) (before after : Class) (t : ℕ) → PastRun layout picks zero aisle before after t
    → Stays before after t
unfolding PastRun
run_none layout picks aisle before after t h = h

pub none_run : (layout : Layout) (picks : List Point) (aisle : ℕ) (before after : Class) (t : ℕ) → Stays before after t
    → PastRun layout picks zero aisle before after t
unfolding PastRun
none_run layout picks aisle before after t h = h

-- past two runs, one after another, is past both in one
pub runs_join : (layout : Layout) (picks : List Point) (m n aisle : ℕ) (before after : Class) (t : ℕ) →
    Then (PastRun layout picks m aisle) (PastRun layout picks n (aisle + m)) before after t → PastRun layout picks (m + n) aisle before after t
runs_join layout picks zero n aisle before after t (between, (near, far, first, next, total)) =
    let stays = run_none layout picks aisle before between near first in
    let count : n ≡ 0 + n = omega arith in
    let from : aisle + 0 ≡ aisle = omega arith in
    let length : far ≡ t = omega (arith, total, stays.1) in
    subst (λ (k : ℕ). PastRun layout picks k aisle before after t) count
    (subst (λ (a : ℕ). PastRun layout picks n a before after t) from
    (subst (λ (s : ℕ). PastRun layout picks n (aisle + 0) before after s) length
    (subst (λ (c : Class). PastRun layout picks n (aisle + 0) c after far) (sym stays.0) next)))
runs_join layout picks (suc m) n aisle before after t (between, (near, far, first, next, total)) =
    let step = run_first layout picks m aisle before between near first in
    let rest = step.1 in
    let count : suc (m + n) ≡ suc m + n = omega arith in
    let from : aisle + suc m ≡ suc aisle + m = omega arith in
    let joined = runs_join layout picks m n (suc aisle) step.0 after (rest.1 + far)
    (between, (rest.1, far, rest.3, subst (λ (a : ℕ). PastRun layout picks n a between after far) from next, refl)) in
    subst (λ (k : ℕ). PastRun layout picks k aisle before after t) count
    (first_run layout picks (m + n) aisle before after t (step.0, (rest.0, rest.1 + far, rest.2, joined, omega (arith, total, rest.4))))

pub run_parts : (layout : Layout) (picks : List Point) (m n aisle : ℕ) (before after : Class) (t : ℕ) → PastRun layout picks (m + n) aisle before after t
    → Then (PastRun layout picks m aisle) (PastRun layout picks n (aisle + m)) before after t
run_parts layout picks zero n aisle before after t past =
    let count : 0 + n ≡ n = omega arith in
    let from : aisle ≡ aisle + 0 = omega arith in (
      before,
      (
        0,
        t,
        none_run layout picks aisle before before 0 (refl, refl),
        subst (λ (a : ℕ). PastRun layout picks n a before after t) from (subst (λ (k : ℕ). PastRun layout picks k aisle before after t) count past),
        omega arith,
      ),
    )
run_parts layout picks (suc m) n aisle before after t past =
    let count : suc m + n ≡ suc (m + n) = omega arith in
    let step = run_first layout picks (m + n) aisle before after t (subst (λ (k : ℕ). PastRun layout picks k aisle before after t) count past) in
    let rest = step.1 in
    let parts = run_parts layout picks m n (suc aisle) step.0 after rest.1 rest.3 in
    let both = parts.1 in
    let from : suc aisle + m ≡ aisle + suc m = omega arith in (
      parts.0,
      (
        rest.0 + both.0,
        both.1,
        first_run layout picks m aisle before parts.0 (rest.0 + both.0) (step.0, (rest.0, both.0, rest.2, both.2, refl)),
        subst (λ (a : ℕ). PastRun layout picks n a parts.0 after both.1) from both.3,
        omega (arith, rest.4, both.4),
      ),
    )

-- behind the last aisle nothing changes
pub run_behind : (layout : Layout) (picks : List Point) (more aisle : ℕ) (before after : Class) (t : ℕ) → layout.aisles < aisle
    → PastRun layout picks more aisle before after t → Stays before after t
run_behind layout picks zero aisle before after t past run = run_none layout picks aisle before after t run
run_behind layout picks (suc more) aisle before after t past run =
    let step = run_first layout picks more aisle before after t run in
    let rest = step.1 in
    let later = run_behind layout picks more (suc aisle) step.0 after rest.1 (omega (arith, past)) rest.3 in
    let here = past_behind layout picks aisle before step.0 rest.0 past rest.2 in
    (here.0 ∙ later.0, omega (arith, rest.4, here.1, later.1))

pub behind_run : (layout : Layout) (picks : List Point) (more aisle : ℕ) (class : Class) → layout.aisles < aisle
    → PastRun layout picks more aisle class class 0
behind_run layout picks zero aisle class past = none_run layout picks aisle class class 0 (refl, refl)
behind_run layout picks (suc more) aisle class past =
    first_run layout picks more aisle class class 0
    (class, (0, 0, behind past (refl, refl), behind_run layout picks more (suc aisle) class (omega (arith, past)), refl))
