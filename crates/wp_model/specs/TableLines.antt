-- How the lines of tables make a stock and orders.
use Rattle.std.specs.Prelude.{◌≡◌, ℕ, ◌<◌, ◌≤◌, ◌&&◌, Bool, true, false, List, [], ◌∷◌, ◌++◌, length, Option, Some}
use Rattle.std.specs.Prelude.{None, if◌then◌else◌, IsTrue}
use Rattle.std.specs.List.{list_any, position_or_len}
use Rattle.std.specs.Str.{bytes_eq}
use Rattle.wp_model.specs.Location.{is_before}
use Rattle.wp_model.specs.Name.{is_name}
use Rattle.wp_model.specs.Opening.{IsLine, Order, Stock, is_known_order, lines_of}
use Rattle.wp_model.specs.Limits.{most_file_orders, most_lines, most_on_hand, most_places, most_rows}
use Rattle.wp_model.specs.Step.{is_among, same_location}
use Rattle.wp_model.specs.Tables.{places_of}
use Rattle.wp_model.specs.declared.location.Location.{Location}
use Rattle.wp_model.specs.declared.line.OrderLine.{OrderLine}
use Rattle.wp_model.specs.declared.line.StockLine.{StockLine}
use Rattle.wp_model.specs.declared.row.StockRow.{StockRow}

-- a record is the list of its fields
abbrev pub Record : Type 0
Record = List (List ℕ)

-- the fields are equal, one by one
abbrev pub same_record : Record → Record → Bool
same_record [] [] = true
same_record [] (y ∷ ys) = false
same_record (x ∷ xs) [] = false
same_record (x ∷ xs) (y ∷ ys) = bytes_eq x y && same_record xs ys

-- the place of a name among names, their number where it isn't there
abbrev pub number_among : List (List ℕ) → List ℕ → ℕ
number_among names name = position_or_len (bytes_eq name) names

-- the names with one more, the last, unless it is there
abbrev pub join : List (List ℕ) → List ℕ → List (List ℕ)
join names name = if is_among names name then names else names ++ name ∷ []

-- whether a row lies at a location
abbrev pub lies_at : Location → StockRow → Bool
lies_at location row = same_location row.location location

-- a row in its place among rows that are in the order of their locations
abbrev pub put_row : StockRow → List StockRow → List StockRow
put_row row [] = row ∷ []
put_row row (r ∷ rows) = if is_before row.location r.location then row ∷ r ∷ rows else r ∷ put_row row rows

-- the row of a line, where articles have these names
abbrev pub row_of : List (List ℕ) → StockLine → StockRow
row_of articles line = record {
  location = line.location;
  article = number_among articles
      line.article;
  on_hand = line.on_hand;
}

-- a stock with one more line: its row in its place, and its article the last, where that is new
abbrev pub add_line : Stock → StockLine → Stock
add_line stock line =
    record {
      rows = put_row (row_of (join stock.articles line.article) line) stock.rows;
      articles = join stock.articles
          line.article;
    }

-- no rows and no articles
abbrev pub empty_stock : Stock
empty_stock = record { rows = []; articles = [] }

-- the number of a field's article, where it is one of these
abbrev pub article_in : List (List ℕ) → List ℕ → Option ℕ
article_in articles field = if is_among articles field then Some (number_among articles field) else None

-- the orders with one more line: the last of the order of its name, or the first of a new order, the last of all
abbrev pub add_order_line : List Order → OrderLine → List Order
add_order_line [] line = record { name = line.order; lines = line.line ∷ [] } ∷ []
add_order_line (order ∷ orders) line =
    if bytes_eq order.name line.order then record order { lines = order.lines ++ line.line ∷ [] } ∷ orders
    else order ∷ add_order_line orders line

-- how many rows of a stock are of the article with a name
abbrev pub places_named : Stock → List ℕ → ℕ
places_named stock name = places_of stock.rows (number_among stock.articles name)

-- a line may join a stock: there is room for a row, none lies at its location, its article has a name and not too many
-- rows, and its units aren't too many
pub record MayJoin (stock : Stock) (line : StockLine) : Type 0 where
  pub room : length stock.rows < most_rows
  pub free : list_any (lies_at line.location) stock.rows ≡ false
  pub places : places_named stock line.article < most_places
  pub on_hand : line.on_hand ≤ most_on_hand
  pub named : IsTrue (is_name line.article)

-- a line may join orders: it is a line of the stock's articles and of an order with a name, and there is room for it in
-- its order, or for a new order
pub record MayJoinOrders (articles : List (List ℕ)) (orders : List Order) (line : OrderLine) : Type 0 where
  pub is_line : IsLine articles line.line
  pub short : length (lines_of orders line.order) < most_lines
  pub few : is_known_order orders line.order ≡ false → length orders < most_file_orders
  pub named : IsTrue (is_name line.order)
