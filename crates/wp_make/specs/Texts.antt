-- The texts of a made input.
use Rattle.std.specs.Prelude.{ℕ, ◌+◌, ◌/◌, ◌≤◌, List, [], ◌∷◌, ◌++◌, length}
use Rattle.std.specs.List.{flat_map}
use Rattle.wp_layout.specs.LayoutText.{layout_text}
use Rattle.wp_model.specs.Journal.{line}
use Rattle.wp_model.specs.Limits.{most_file_bytes}
use Rattle.wp_model.specs.TableLines.{Record}
use Rattle.wp_model.specs.Warehouse.{Layout, even_layout}
use Rattle.wp_tables.specs.DeskFile.{desks_heading}
use Rattle.wp_tables.specs.OrderFile.{orders_heading}
use Rattle.wp_tables.specs.StockFile.{stock_heading}
use Rattle.wp_make.specs.Lines.{made_slots}
use Rattle.wp_make.specs.Records.{desks_records, orders_records, stock_records}
use Rattle.wp_make.specs.declared.input.Input.{Input}
use Rattle.wp_make.specs.declared.input.Size.{Size}

-- the texts of the four files
pub record Texts : Type 0 where
  pub layout : List ℕ
  pub stock : List ℕ
  pub orders : List ℕ
  pub desks : List ℕ

-- none is longer than a file may be
pub record AreShort (texts : Texts) : Type 0 where
  pub layout : length texts.layout ≤ most_file_bytes
  pub stock : length texts.stock ≤ most_file_bytes
  pub orders : length texts.orders ≤ most_file_bytes
  pub desks : length texts.desks ≤ most_file_bytes

-- those of an input
abbrev pub texts_of : Input → Texts
texts_of input = record {
  layout = input.layout.items;
  stock = input.stock.items;
  orders = input.orders.items;
  desks = input.desks.items;
}

-- a warehouse of so many aisles, its depot in front in the middle
abbrev pub made_layout : ℕ → Layout
made_layout aisles = even_layout aisles made_slots 2 1 5 ((aisles + 1) / 2)

-- a field after another
abbrev pub after_comma : List ℕ → List ℕ
after_comma field = 44 ∷ field

-- a record as a line: its fields with commas between them
abbrev pub record_line : Record → List ℕ
record_line [] = line []
record_line (field ∷ fields) = line (field ++ flat_map after_comma fields)

-- a table: its heading and its records, line by line
abbrev pub table_text : Record → List Record → List ℕ
table_text heading records = flat_map record_line (heading ∷ records)

-- the texts that are made from a number
abbrev pub made_texts : ℕ → Size → Texts
made_texts number size = record {
  layout = line (layout_text (made_layout size.aisles));
  stock = table_text stock_heading (stock_records size.aisles);
  orders = table_text orders_heading (orders_records size.aisles number size.orders);
  desks = table_text desks_heading (desks_records size);
}
