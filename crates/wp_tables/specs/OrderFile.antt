-- What an order file says.
use Rattle.std.specs.Prelude.{ℕ, nat_lt, List, [], ◌∷◌, length, codes, if◌then◌else◌, Result, Ok, Err}
use Rattle.std.specs.Option.{ok_or}
use Rattle.wp_model.specs.Opening.{Order, Stock, is_known_order, lines_of}
use Rattle.wp_model.specs.Limits.{most_file_orders, most_lines}
use Rattle.wp_model.specs.TableLines.{Record, add_order_line, article_in}
use Rattle.wp_model.specs.declared.line.OrderLine.{OrderLine}
use Rattle.wp_tables.specs.Fields.{Three, name_read, quantity_read, three_texts}
use Rattle.wp_tables.specs.Reading.{table_of}
use Rattle.wp_model.specs.Outcomes.{and_then}
use Rattle.wp_tables.specs.Records.{kept_in}
use Rattle.wp_tables.specs.declared.fault.RowFault.{RowFault}
use Rattle.wp_tables.specs.declared.fault.Why.{Why}
use Rattle.wp_tables.specs.declared.fault.Why.TheVariants as why

-- the order of a name, where there is room for one more line: a known order has room for it, or there is room for a new
-- order
abbrev pub order_with_room : List Order → List ℕ → Result (List ℕ) Why
order_with_room orders name =
    if is_known_order orders name then (if nat_lt (length (lines_of orders name)) most_lines then Ok name
    else Err why.TooManyLines)
    else if nat_lt (length orders) most_file_orders then Ok name else Err why.TooManyOrders

-- the order of a further line
abbrev pub order_read : List Order → List ℕ → Result (List ℕ) Why
order_read orders field = and_then (name_read field) (order_with_room orders)

-- the number of the article that a field names
abbrev pub article_read : List (List ℕ) → List ℕ → Result ℕ Why
article_read articles field = and_then (name_read field) (λ name. ok_or (article_in articles name) why.UnknownArticle)

-- the line that three fields write
abbrev pub order_line_of_three : List (List ℕ) → List Order → Three (List ℕ) → Result OrderLine Why
order_line_of_three articles orders fields = and_then (order_read orders fields.0)
    (λ order. and_then (article_read articles fields.1)
    (λ article. and_then (quantity_read fields.2)
    (λ quantity. Ok (record { order = order; line = record { article = article; quantity = quantity } }))))

-- the line that a record writes, after those that made these orders; or the first test that the record fails
abbrev pub order_line_of : List (List ℕ) → List Order → Record → Result OrderLine Why
order_line_of articles orders fields = and_then (three_texts fields) (order_line_of_three articles orders)

-- the orders with a record's line
abbrev pub orders_after : List (List ℕ) → List Order → Record → Result (List Order) Why
orders_after articles orders fields = and_then (order_line_of articles orders fields)
    (λ line. Ok (add_order_line orders line))

-- the heading of an order file
abbrev pub orders_heading : Record
orders_heading = codes "order" ∷ codes "article" ∷ codes "quantity" ∷ []

-- the orders that an order file says for a stock, or the first record that fails and its first failing test
abbrev pub orders_said : Stock → List ℕ → Result (List Order) RowFault
orders_said stock text = table_of orders_heading (orders_after stock.articles) [] (kept_in text)
