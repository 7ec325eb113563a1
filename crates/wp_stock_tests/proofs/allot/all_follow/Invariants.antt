use Rattle.std.proofs.Common.{◌≡◌, ◌<◌, ◌≤◌, ℕ, Some, slice_get}
use Rattle.wp_allot.specs.declared.want.Want.{Want}
use Rattle.wp_stock_tests.proofs.allot.all_follow.Given as goal

abbrev pub invariant-loop-place : goal.invariant-loop-place
invariant-loop-place l = (j k : ℕ) (v w : Want) → j < l.place → k < j → slice_get l.wants k ≡ Some v → slice_get l.wants j ≡ Some w → (v.order ≤ w.order)
    × (v.order ≡ w.order → v.article ≡ w.article → ⊥)
