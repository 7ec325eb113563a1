-- Pools of columns: batches of orders, each with its length.
use Rattle.std.specs.Prelude.{◌≢◌, ℕ, ◌<◌, ◌≤◌, ◌^◌, List, [], All, Contains, slice_index_or}
use Rattle.wp_master.specs.declared.column.Column.{Column}

-- a number of orders, and columns over them in the order of adding
pub record ColumnPool : Type 0 where
  pub orders : ℕ
  pub columns : List Column

-- a column by its number in the order of adding
abbrev pub column_of : ColumnPool → ℕ → Column
column_of pool i = slice_index_or pool.columns i (record { batch = []; length = 0 })

-- a column has some orders, all of them among so many, and a length below 2 ^ 40
pub record IsColumn (orders : ℕ) (column : Column) : Type 0 where
  pub filled : column.batch ≢ []
  pub known : All (λ order. order < orders) column.batch
  pub short : column.length < 2 ^ 40

-- a pool has 1 to 64 orders, and its columns are over them
pub record IsPool (pool : ColumnPool) : Type 0 where
  pub some : 1 ≤ pool.orders
  pub most : pool.orders ≤ 64
  pub each : All (IsColumn pool.orders) pool.columns

-- some column holds the order
abbrev pub IsCovered : ColumnPool → ℕ → Type 0
IsCovered pool order = (column : Column) × Contains pool.columns column × Contains column.batch order

-- each order below this one is held by some column
abbrev pub AreCovered : ColumnPool → ℕ → Type 0
AreCovered pool below = (order : ℕ) → order < below → IsCovered pool order

-- the least order that no column holds
pub record IsFirstUncovered (pool : ColumnPool) (order : ℕ) : Type 0 where
  pub known : order < pool.orders
  pub before : AreCovered pool order
  pub uncovered : IsCovered pool order → ⊥
