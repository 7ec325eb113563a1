-- Orders by their names and their lines.
use Rattle.std.specs.Prelude.{◌≡◌, ℕ, ◌<◌, false, List, [], ◌∷◌, Vec, length}
use Rattle.std.specs.declared.alloc.Global.{Global}
use Rattle.wp_model.specs.Opening.{Order, is_known_order, lines_of}
use Rattle.wp_model.specs.Limits.{most_file_orders, most_lines}
use Rattle.wp_model.specs.declared.row.Line.{Line}

-- the orders of these names with these lines, one by one
abbrev pub orders_of_parts : List (List ℕ) → List (Vec Line Global) → List Order
orders_of_parts [] lines = []
orders_of_parts (name ∷ names) [] = []
orders_of_parts (name ∷ names) (lines ∷ more) = record { name = name; lines = lines.items } ∷ orders_of_parts names more

-- an order's name
abbrev pub name_of : Order → List ℕ
name_of order = order.name

-- an order's lines
abbrev pub lines_in : Order → List Line
lines_in order = order.lines

-- there is room for a line of the order with a name
pub record HasRoom (orders : List Order) (name : List ℕ) : Type 0 where
  pub short : length (lines_of orders name) < most_lines
  pub few : is_known_order orders name ≡ false → length orders < most_file_orders
