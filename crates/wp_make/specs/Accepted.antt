-- What the readers of files make of texts.
use Rattle.std.specs.Prelude.{◌≡◌, List, Ok}
use Rattle.wp_layout.specs.LayoutFile.{layout_said}
use Rattle.wp_model.specs.History.{Script}
use Rattle.wp_model.specs.Opening.{Order, Stock}
use Rattle.wp_model.specs.Warehouse.{Layout}
use Rattle.wp_tables.specs.DeskFile.{scripts_said}
use Rattle.wp_tables.specs.OrderFile.{orders_said}
use Rattle.wp_tables.specs.StockFile.{stock_said}
use Rattle.wp_make.specs.Texts.{Texts}

-- a day: a layout, the stock in it with the orders for it, and the scripts of the desks
pub record Day : Type 0 where
  pub layout : Layout
  pub stock : Stock
  pub orders : List Order
  pub scripts : List Script

-- the texts say a day, and the readers refuse none of them
pub record Say (texts : Texts) (day : Day) : Type 0 where
  pub layout : layout_said texts.layout ≡ Ok day.layout
  pub stock : stock_said day.layout texts.stock ≡ Ok day.stock
  pub orders : orders_said day.stock texts.orders ≡ Ok day.orders
  pub desks : scripts_said texts.desks ≡ Ok day.scripts

-- the readers accept the texts
abbrev pub AreAccepted : Texts → Type 0
AreAccepted texts = (day : Day) × Say texts day
