-- What every stock and all orders keep that were read from tables.
use Rattle.std.specs.Prelude.{ℕ, ◌≡◌, ◌+◌, ◌<◌, ◌≤◌, ◌==◌, List, [], ◌∷◌, length, Option, Some, None, if◌then◌else◌}
use Rattle.std.specs.Prelude.{slice_get, IfSome, IsTrue}
use Rattle.std.specs.List.{All, sum_by}
use Rattle.wp_model.specs.History.{Script}
use Rattle.wp_model.specs.Limits.{greatest_desk, most_cart_units, most_commands, most_file_orders, most_places}
use Rattle.wp_model.specs.Limits.{most_rows}
use Rattle.wp_model.specs.Location.{is_before}
use Rattle.wp_model.specs.Name.{is_name}
use Rattle.wp_model.specs.Opening.{IsOrder, IsStockRow, Opening, Order, Stock}
use Rattle.wp_model.specs.Plain.{has_names, is_plain}
use Rattle.wp_model.specs.Step.{same_location}
use Rattle.wp_model.specs.declared.location.Location.{Location}
use Rattle.wp_model.specs.declared.row.StockRow.{StockRow}

-- each row lies before those that come after it
abbrev pub AreRising : List StockRow → Type 0
AreRising rows = (i j : ℕ) (r s : StockRow) → slice_get rows i ≡ Some r → slice_get rows j ≡ Some s → i < j
    → IsTrue (is_before r.location s.location)

-- how many rows are of the article
abbrev pub places_of : List StockRow → ℕ → ℕ
places_of [] article = 0
places_of (row ∷ rows) article = (if row.article == article then 1 else 0) + places_of rows article

-- the number of the first row at a location, where the first row of the list has this number
abbrev pub row_number_from : ℕ → List StockRow → Location → Option ℕ
row_number_from number [] location = None
row_number_from number (row ∷ rows) location
    = if same_location row.location location then Some number else row_number_from (number + 1) rows location

-- not too many rows, in the order of their locations, no two at one; each is a row of the stock's articles, and no
-- article has too many; articles have names
pub record IsReadStock (stock : Stock) : Type 0 where
  pub rows : All (IsStockRow stock.articles) stock.rows
  pub most : length stock.rows ≤ most_rows
  pub few : length stock.articles ≤ length stock.rows
  pub rise : AreRising stock.rows
  pub places : (article : ℕ) → places_of stock.rows article ≤ most_places
  pub named : All (λ article. IsTrue (is_name article)) stock.articles

-- not too many orders, each of the stock's articles, with names of which no two are the same
pub record AreReadOrders (articles : List (List ℕ)) (orders : List Order) : Type 0 where
  pub each : All (IsOrder articles) orders
  pub most : length orders ≤ most_file_orders
  pub different : (i j : ℕ) (a b : Order) → slice_get orders i ≡ Some a → slice_get orders j ≡ Some b → a.name ≡ b.name
      → i ≡ j
  pub named : All (λ order. IsTrue (is_name order.name)) orders

-- so many units may be those of a cart: one at least, and not too many
abbrev pub IsCart : ℕ → Type 0
IsCart units = (1 ≤ units) × (units ≤ most_cart_units)

-- an opening whose tables were read, with the units of a cart or none
pub record IsReadOpening (opening : Opening) : Type 0 where
  pub stock : IsReadStock opening.stock
  pub orders : AreReadOrders opening.stock.articles opening.orders
  pub cart : IfSome opening.units IsCart

-- the scripts of desks 1, 2 and so on, of one desk at least: not too many commands together, and each is plain and
-- names names
pub record AreReadScripts (scripts : List Script) : Type 0 where
  pub some : 1 ≤ length scripts
  pub few : length scripts ≤ greatest_desk
  pub numbered : (i : ℕ) → IfSome (slice_get scripts i) (λ script. script.desk ≡ i + 1)
  pub most : sum_by (λ script. length script.commands) scripts ≤ most_commands
  pub plain : All (λ script. All (λ command. IsTrue (is_plain command)) script.commands) scripts
  pub named : All (λ script. All (λ command. IsTrue (has_names command)) script.commands) scripts
