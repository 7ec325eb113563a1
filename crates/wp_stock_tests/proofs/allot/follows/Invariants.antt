use Rattle.std.proofs.Common.{◌≡◌, ◌<◌, ◌≤◌, ℕ, Some, slice_get}
use Rattle.wp_allot.specs.declared.want.Want.{Want}
use Rattle.wp_stock_tests.proofs.allot.follows.Given as goal

abbrev pub invariant-loop-k : goal.invariant-loop-k
invariant-loop-k l = (k : ℕ) (v w : Want) → k < l.k → slice_get l.wants k ≡ Some v → slice_get l.wants l.place ≡ Some w → (v.order ≤ w.order)
    × (v.order ≡ w.order → v.article ≡ w.article → ⊥)
