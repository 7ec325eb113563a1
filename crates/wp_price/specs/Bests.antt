-- The best batch so far, and which batches are no better.
use Rattle.std.specs.Prelude.{◌≡◌, ℕ, ◌<◌, ◌≤◌, ◌⊎◌, false, List, Option, Some, None, IfSome, slice_index_or}
use Rattle.wp_price.specs.declared.best.LeastBatch.{LeastBatch}
use Rattle.wp_price.specs.Slacks.{comes_before}

-- one batch is no worse than another: it has no more slack, and where both have the same the other doesn't come before
-- it
pub record IsNoWorse (one other : LeastBatch) : Type 0 where
  pub low : one.raised ≤ other.raised
  pub first : one.raised ≡ other.raised → comes_before other.batch one.batch ≡ false

-- the better of the best so far and the next
pub record IsBetterOf (best : Option LeastBatch) (next better : LeastBatch) : Type 0 where
  pub either : (better ≡ next) ⊎ (best ≡ Some better)
  pub next_no_better : IsNoWorse better next
  pub best_no_better : IfSome best (IsNoWorse better)

-- one batch is no better than the best
abbrev pub IsNoBetter : LeastBatch → Option LeastBatch → Type 0
IsNoBetter one None = ⊥
IsNoBetter one (Some best) = IsNoWorse best one

-- the best of a first one and of the others below an end: it is one of them, and none of them is better
pub record IsBestAmong (first : Option LeastBatch) (others : List (Option LeastBatch)) (end : ℕ)
    (best : Option LeastBatch) : Type 0 where
  pub either : (best ≡ first) ⊎ ((at : ℕ) × (at < end) × (slice_index_or others at best ≡ best))
  pub first_no_better : IfSome first (λ (one : LeastBatch). IsNoBetter one best)
  pub no_better : (at : ℕ) (d : Option LeastBatch) → at < end
      → IfSome (slice_index_or others at d) (λ (one : LeastBatch). IsNoBetter one best)
