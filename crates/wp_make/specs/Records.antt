-- The records of the made tables.
use Rattle.std.specs.Prelude.{ℕ, ◌+◌, List, [], ◌∷◌, ◌++◌, codes, map}
use Rattle.std.specs.Fmt.{decimal}
use Rattle.std.specs.List.{flat_map, range_with_len}
use Rattle.wp_model.specs.Journal.{location_text}
use Rattle.wp_model.specs.TableLines.{Record}
use Rattle.wp_model.specs.declared.location.Side.TheVariants as side
use Rattle.wp_make.specs.Lines.{after_orders, made_slots, order_lines}
use Rattle.wp_make.specs.Sizes.{desk_of_wave, orders_of_wave, wave_count}
use Rattle.wp_make.specs.declared.generator.MadeLine.{MadeLine}
use Rattle.wp_make.specs.declared.input.Size.{Size}

-- how many units lie in each made row
abbrev pub made_on_hand : ℕ
made_on_hand = 1000000

-- the article of a slot
abbrev pub article_name : ℕ → ℕ → List ℕ
article_name aisle slot = codes "A" ++ decimal aisle ++ codes "-" ++ decimal slot

-- the order with a number
abbrev pub order_name : ℕ → List ℕ
order_name number = codes "O" ++ decimal number

-- the wave with a number
abbrev pub wave_name : ℕ → List ℕ
wave_name number = codes "W" ++ decimal number

-- the row of a slot, which lies on the left: its location, its article and its units
abbrev pub stock_record : ℕ → ℕ → Record
stock_record aisle slot =
    location_text (record { aisle = aisle; slot = slot; side = side.L }) ∷ article_name aisle slot
    ∷ decimal made_on_hand ∷ []

-- the rows of an aisle, slot by slot
unfoldable pub aisle_records : ℕ → List Record
aisle_records aisle = map (stock_record aisle) (range_with_len 1 made_slots)

-- the rows of so many aisles, aisle by aisle
abbrev pub stock_records : ℕ → List Record
stock_records aisles = flat_map aisle_records (range_with_len 1 aisles)

-- a line of the order with a number
abbrev pub line_record : ℕ → MadeLine → Record
line_record number line = order_name number ∷ article_name line.aisle line.slot ∷ decimal line.quantity ∷ []

-- the lines of the order after so many, where the first order is made from a state on
abbrev pub order_records : ℕ → ℕ → ℕ → List Record
order_records aisles state orders = map (line_record (orders + 1)) (order_lines aisles (after_orders orders state))

-- the lines of so many orders, order by order
abbrev pub orders_records : ℕ → ℕ → ℕ → List Record
orders_records aisles state count = flat_map (order_records aisles state) (range_with_len 0 count)

-- the wave after so many is submitted with its orders
abbrev pub submit_record : Size → ℕ → Record
submit_record size waves =
    decimal (desk_of_wave size waves) ∷ codes "submit" ∷ wave_name (waves + 1)
    ∷ map order_name (orders_of_wave size waves)

-- and released
abbrev pub release_record : Size → ℕ → Record
release_record size waves = decimal (desk_of_wave size waves) ∷ codes "release" ∷ wave_name (waves + 1) ∷ []

-- the commands of the wave after so many
abbrev pub wave_records : Size → ℕ → List Record
wave_records size waves = submit_record size waves ∷ release_record size waves ∷ []

-- the commands of all waves, wave by wave
abbrev pub desks_records : Size → List Record
desks_records size = flat_map (wave_records size) (range_with_len 0 (wave_count size))
