-- What a stock file says.
use Rattle.std.specs.Prelude.{ℕ, ◌&&◌, nat_le, nat_lt, Bool, List, [], ◌∷◌, length, codes, if◌then◌else◌, Result, Ok}
use Rattle.std.specs.Prelude.{Err}
use Rattle.std.specs.List.{list_any}
use Rattle.wp_model.specs.Opening.{Stock}
use Rattle.wp_model.specs.Limits.{most_on_hand, most_places, most_rows}
use Rattle.wp_model.specs.TableLines.{Record, add_line, empty_stock, lies_at, places_named}
use Rattle.wp_model.specs.Warehouse.{Layout}
use Rattle.wp_model.specs.declared.line.StockLine.{StockLine}
use Rattle.wp_model.specs.declared.location.Location.{Location}
use Rattle.wp_tables.specs.Fields.{Three, location_read, name_read, number_read, three_texts}
use Rattle.wp_tables.specs.Reading.{table_of}
use Rattle.wp_model.specs.Outcomes.{and_then}
use Rattle.wp_tables.specs.Records.{kept_in}
use Rattle.wp_tables.specs.declared.fault.RowFault.{RowFault}
use Rattle.wp_tables.specs.declared.fault.Why.{Why}
use Rattle.wp_tables.specs.declared.fault.Why.TheVariants as why

-- a location in a layout: its aisle is one of the aisles, and its slot one of the slots
abbrev pub is_inside : Layout → Location → Bool
is_inside layout location = nat_le 1 location.aisle && nat_le location.aisle layout.aisles && nat_le 1
    location.slot && nat_le location.slot layout.slots

-- the location of a further row: it is in the layout, and no row lies there
abbrev pub free_location : Layout → Stock → List ℕ → Result Location Why
free_location layout stock field = and_then (location_read field)
    (λ location. if is_inside layout location
    then (if list_any (lies_at location) stock.rows then Err why.LocationTwice else Ok location) else Err
    why.UnknownLocation)

-- the article of a further row
abbrev pub article_with_room : Stock → List ℕ → Result (List ℕ) Why
article_with_room stock field = and_then (name_read field)
    (λ name. if nat_lt (places_named stock name) most_places then Ok name else Err why.TooManyPlaces)

-- the line that three fields write
abbrev pub line_of_three : Layout → Stock → Three (List ℕ) → Result StockLine Why
line_of_three layout stock fields = and_then (free_location layout stock fields.0)
    (λ location. and_then (article_with_room stock fields.1)
    (λ article. and_then (number_read 0 most_on_hand fields.2)
    (λ on_hand. Ok (record { location = location; article = article; on_hand = on_hand }))))

-- the line that a record writes, after those that made this stock; or the first test that the record fails
abbrev pub stock_line_of : Layout → Stock → Record → Result StockLine Why
stock_line_of layout stock fields =
    if nat_lt (length stock.rows) most_rows then and_then (three_texts fields) (line_of_three layout stock)
    else Err why.TooManyRows

-- the stock with a record's line
abbrev pub stock_after : Layout → Stock → Record → Result Stock Why
stock_after layout stock fields = and_then (stock_line_of layout stock fields) (λ line. Ok (add_line stock line))

-- the heading of a stock file
abbrev pub stock_heading : Record
stock_heading = codes "location" ∷ codes "article" ∷ codes "on_hand" ∷ []

-- the stock that a stock file says of a layout, or the first record that fails and its first failing test
abbrev pub stock_said : Layout → List ℕ → Result Stock RowFault
stock_said layout text = table_of stock_heading (stock_after layout) empty_stock (kept_in text)
