-- Columns of a linear program with their weights.
use Rattle.std.specs.Prelude.{◌≡◌, ℕ, ◌<◌, List, All, length, slice_index, slice_index_or}
use Rattle.wp_master.specs.declared.column.Column.{Column}
use Rattle.wp_node.specs.declared.work.Weighted.{Weighted}

-- a column and its weight stand at one place of their lists
pub record IsWeighted (columns : List Column) (weights : List ℕ) (weighted : Weighted) : Type 0 where
  pub place : ℕ
  pub within : place < length columns
  pub column : slice_index_or columns place weighted.column ≡ weighted.column
  pub weight : weighted.weight ≡ slice_index weights place

-- there is one length that all columns have
pub record HaveOneLength (weighted : List Weighted) : Type 0 where
  pub one : ℕ
  pub same : All (λ each. each.column.length ≡ one) weighted
