-- The first article of which lines want more than is free.
use Rattle.std.specs.Prelude.{◌≡◌, ℕ, ◌<◌, ◌≤◌, ◌+◌, List, length, Option, Some, None, slice_get}
use Rattle.wp_waves.specs.Turns.{lines_demand, units_free}
use Rattle.wp_waves.specs.declared.free_stock.FreeStock.{FreeStock}
use Rattle.wp_waves.specs.declared.free_stock.Shortage.{Shortage}
use Rattle.wp_model.specs.declared.row.Line.{Line}

-- more is wanted of an article than is free, and these are its numbers
pub record IsLess (lines : List Line) (free : ℕ → ℕ) (short : Shortage) : Type 0 where
  pub wanted : short.wanted ≡ lines_demand lines short.article
  pub free_is : short.free ≡ free short.article
  pub less : short.free < short.wanted

-- there is enough of the articles of the first lines, or this is the first of them of which there isn't
abbrev pub IsFirstAmong : List Line → (ℕ → ℕ) → ℕ → Option Shortage → Type 0
IsFirstAmong lines free count None =
    (k : ℕ) (line : Line) → k < count → slice_get lines k ≡ Some line
    → lines_demand lines line.article ≤ free line.article
IsFirstAmong lines free count (Some short) =
    IsLess lines free short × ((k : ℕ) (line : Line) → k < count → slice_get lines k ≡ Some line
    → line.article < short.article
    → lines_demand lines line.article ≤ free line.article)
    × ((k : ℕ) × (line : Line) × (slice_get lines k ≡ Some line) × (line.article ≡ short.article))

-- none where there is enough of a line's article, and its numbers where there isn't
abbrev pub IsShortageAt : List Line → (ℕ → ℕ) → ℕ → Option Shortage → Type 0
IsShortageAt lines free article None = lines_demand lines article ≤ free article
IsShortageAt lines free article (Some short) = (short.article ≡ article) × IsLess lines free short

-- lines were taken from what was free
pub record HaveTaken (lines : List Line) (old new : FreeStock) : Type 0 where
  pub count : length new.units.items ≡ length old.units.items
  pub taken : (article : ℕ) → units_free new article + lines_demand lines article ≡ units_free old article
