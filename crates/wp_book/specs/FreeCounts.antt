-- How many units of each article are free in rows, kept beside them.
use Rattle.std.specs.Prelude.{◌≡◌, ℕ, ◌<◌, ◌^◌, List, length, None, IfSome, slice_get, slice_index}
use Rattle.wp_model.specs.Demand.{free_units}
use Rattle.wp_model.specs.declared.row.Row.{Row}

-- a row's article has a count, among so many, and its free units fit their width
pub record IsCountable (articles : ℕ) (row : Row) : Type 0 where
  pub article : row.article < articles
  pub fits : row.free < 2 ^ 32

-- rows are counted: not too many, each of them countable, and the count of each article is the free units of its
-- rows, 0 past the last count
pub record AreCounted (rows : List Row) (free : List ℕ) : Type 0 where
  pub few : length rows < 2 ^ 32
  pub each : (k : ℕ) → IfSome (slice_get rows k) (IsCountable (length free))
  pub counts : (article : ℕ) → slice_index free article ≡ free_units rows article None
