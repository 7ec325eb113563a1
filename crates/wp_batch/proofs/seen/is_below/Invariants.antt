use Rattle.std.proofs.Common.{ℕ, ◌<◌, ◌≤◌, ◌⊎◌, Contains}
use Rattle.wp_batch.proofs.seen.is_below.Given as goal

abbrev pub invariant-loop-order : goal.invariant-loop-order
invariant-loop-order l = ((p : ℕ) → Contains l.fn.batch p → (p < l.orders) ⊎ Contains l.rest p)
    × ((p : ℕ) → Contains l.rest p → Contains l.fn.batch p × (l.order ≤ p))
