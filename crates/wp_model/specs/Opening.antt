-- What a run begins with: the stock file, the order file, and how many units a cart holds.
use Rattle.std.specs.Prelude.{ℕ, ◌<◌, ◌≤◌, List, [], ◌∷◌, Option, if◌then◌else◌, length, slice_index_or, Bool, false}
use Rattle.std.specs.Prelude.{◌||◌}
use Rattle.std.specs.List.{All, sum_by}
use Rattle.std.specs.Str.{bytes_eq}
use Rattle.wp_model.specs.Limits.{most_lines, most_on_hand, most_quantity}
use Rattle.wp_model.specs.declared.row.Line.{Line}
use Rattle.wp_model.specs.declared.row.StockRow.{StockRow}

-- the stock: its rows in the order of their locations, and its articles in the order of their first appearance
pub record Stock : Type 0 where
  pub rows : List StockRow
  pub articles : List (List ℕ)

-- an order: its name, and its lines in order
pub record Order : Type 0 where
  pub name : List ℕ
  pub lines : List Line

-- the stock, the orders in the order of their first appearance, and the units that a cart holds, none where it holds
-- any number
pub record Opening : Type 0 where
  pub stock : Stock
  pub orders : List Order
  pub units : Option ℕ

-- a row has an article of the stock, and no more units than a row may have
pub record IsStockRow (articles : List (List ℕ)) (row : StockRow) : Type 0 where
  pub article : row.article < length articles
  pub on_hand : row.on_hand ≤ most_on_hand

-- a line wants at least one unit of an article of the stock, and not too many
pub record IsLine (articles : List (List ℕ)) (line : Line) : Type 0 where
  pub article : line.article < length articles
  pub quantity : 0 < line.quantity
  pub most : line.quantity ≤ most_quantity

-- an order has at least one line, and not too many
pub record IsOrder (articles : List (List ℕ)) (order : Order) : Type 0 where
  pub some : 0 < length order.lines
  pub most : length order.lines ≤ most_lines
  pub lines : All (IsLine articles) order.lines

-- what every opening that was read keeps
pub record IsOpening (opening : Opening) : Type 0 where
  pub rows : All (IsStockRow opening.stock.articles) opening.stock.rows
  pub orders : All (IsOrder opening.stock.articles) opening.orders

-- the lines of the order with a name, none where there is no such order
abbrev pub lines_of : List Order → List ℕ → List Line
lines_of [] name = []
lines_of (order ∷ orders) name = if bytes_eq order.name name then order.lines else lines_of orders name

-- the units of all lines together
abbrev pub line_units : List Line → ℕ
line_units lines = sum_by (λ (line : Line). line.quantity) lines

-- the units of the order with a name: those of all its lines
abbrev pub order_units : List Order → List ℕ → ℕ
order_units orders name = line_units (lines_of orders name)

-- an order has this name
abbrev pub is_known_order : List Order → List ℕ → Bool
is_known_order [] name = false
is_known_order (order ∷ orders) name = bytes_eq order.name name || is_known_order orders name

-- the name of an article by its number
abbrev pub article_name : Opening → ℕ → List ℕ
article_name opening article = slice_index_or opening.stock.articles article []
