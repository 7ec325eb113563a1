-- The orders of two batches, put into two batches anew.
use Rattle.std.specs.Prelude.{ℕ, ◌<◌, ◌≤◌, ◌⊎◌, ◌↔◌, List, Contains, length}
use Rattle.wp_pairs.specs.Batches.{IsBatch}
use Rattle.wp_pairs.specs.Carts.{FitsAnyCart}
use Rattle.wp_lengths.specs.Batchings.{batch_at}
use Rattle.wp_lengths.specs.Waves.{WavePicks}
use Rattle.wp_batch.specs.declared.split.Split.{Split}

-- each order of a batch is in one of two others, and none is in both
pub record IsDivided (union : List ℕ) (split : Split) : Type 0 where
  pub of_both : (p : ℕ) → Contains union p ↔ (Contains split.left p ⊎ Contains split.right p)
  pub apart : (p : ℕ) → Contains split.left p → Contains split.right p → ⊥

-- a batch has an order, no more orders than the capacity, and fits the wave's cart, if it has one
pub record IsFit (wave : WavePicks) (capacity : ℕ) (batch : List ℕ) : Type 0 where
  pub is : IsBatch batch
  pub filled : 1 ≤ length batch
  pub fits : length batch ≤ capacity
  pub light : FitsAnyCart wave.cart batch

-- a batch divided into two that fit
pub record IsSplit (wave : WavePicks) (capacity : ℕ) (union : List ℕ) (split : Split) : Type 0 where
  pub divided : IsDivided union split
  pub left : IsFit wave capacity split.left
  pub right : IsFit wave capacity split.right

-- what is still to be divided is in neither of the two
pub record DividesInto (union left right rest : List ℕ) : Type 0 where
  pub of_all : (p : ℕ) → Contains union p ↔ (Contains left p ⊎ (Contains right p ⊎ Contains rest p))
  pub apart : (p : ℕ) → Contains left p → Contains right p → ⊥
  pub left_rest : (p : ℕ) → Contains left p → Contains rest p → ⊥
  pub right_rest : (p : ℕ) → Contains right p → Contains rest p → ⊥

-- two batches of a list, the earlier first, and their orders put into two batches that fit
pub record CanReplace (wave : WavePicks) (capacity : ℕ) (batches : List (List ℕ)) (left right : ℕ)
    (split : Split) : Type 0 where
  pub order : left < right
  pub within : right < length batches
  pub of_both : (p : ℕ) → (Contains split.left p ⊎ Contains split.right p)
      ↔ (Contains (batch_at batches left) p ⊎ Contains (batch_at batches right) p)
  pub apart : (p : ℕ) → Contains split.left p → Contains split.right p → ⊥
  pub left_fit : IsFit wave capacity split.left
  pub right_fit : IsFit wave capacity split.right
