-- A stock as it is kept.
use Rattle.std.specs.Prelude.{◌≡◌, ℕ, List, length, map, slice_index}
use Rattle.wp_model.specs.Opening.{Stock}
use Rattle.wp_model.specs.Tables.{IsReadStock, places_of}
use Rattle.wp_model.specs.declared.location.Location.{Location}
use Rattle.wp_model.specs.declared.row.StockRow.{StockRow}

-- each row with its location
abbrev pub by_location : List StockRow → List (Location × StockRow)
by_location rows = map (λ row. (row.location, row)) rows

-- for each article the number of its rows is kept
pub record ArePlaces (stock : Stock) (places : List ℕ) : Type 0 where
  pub counts : (article : ℕ) → slice_index places article ≡ places_of stock.rows article
  pub as_many : length places ≡ length stock.articles

-- a stock that was read, and its numbers of rows
pub record IsKeptStock (stock : Stock) (places : List ℕ) : Type 0 where
  pub read : IsReadStock stock
  pub counted : ArePlaces stock places
