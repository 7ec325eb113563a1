-- The readers accept the made texts.
use Rattle.std.proofs.Common.{◌≡◌, refl, ap, ℕ, List, [], arith, Ok}
use Rattle.csv.specs.Reading.{strip_bom}
use Rattle.wp_layout.specs.LayoutFile.{layout_said}
use Rattle.wp_model.specs.TableLines.{Record, empty_stock}
use Rattle.wp_model.specs.Outcomes.{and_then}
use Rattle.wp_tables.specs.DeskFile.{desks_heading, script_after, scripts_of}
use Rattle.wp_tables.specs.OrderFile.{orders_after, orders_heading}
use Rattle.wp_tables.specs.StockFile.{stock_after, stock_heading}
use Rattle.wp_make.specs.Accepted.{AreAccepted}
use Rattle.wp_make.specs.Records.{desks_records, orders_records, stock_records}
use Rattle.wp_make.specs.Sizes.{IsSize}
use Rattle.wp_make.specs.Texts.{made_layout, made_texts, table_text}
use Rattle.wp_make.specs.declared.input.Size.{Size}
use Rattle.wp_make.proofs.DesksRead.{desks_made}
use Rattle.wp_make.proofs.Making.{table_said}
use Rattle.wp_make.proofs.OrdersRead.{HasArticles, orders_made}
use Rattle.wp_make.proofs.StockRead.{stock_made}

-- no heading begins with a byte order mark
stock_bare : (records : List Record) → strip_bom (table_text stock_heading records) ≡ table_text stock_heading records
unfolding strip_bom
stock_bare records = refl

orders_bare : (records : List Record) → strip_bom (table_text orders_heading records) ≡ table_text orders_heading records
unfolding strip_bom
orders_bare records = refl

desks_bare : (records : List Record) → strip_bom (table_text desks_heading records) ≡ table_text desks_heading records
unfolding strip_bom
desks_bare records = refl

-- where the layout is read, so are the tables
pub day_said : (number : ℕ) (size : Size) → IsSize size → layout_said (made_texts number size).layout ≡ Ok (made_layout size.aisles)
    → AreAccepted (made_texts number size)
day_said number size is said =
    let layout = made_layout size.aisles in
    let stock = stock_made size.aisles is.aisles in
    let there : HasArticles size.aisles stock.after.articles =
    λ aisle slot place inside. stock.keeps.there aisle slot place (omega (arith, place.last_slot)) in
    let orders = orders_made size.aisles number size.orders stock.after.articles is.some_aisles is.aisles there is.orders in
    let desks = desks_made size is in (
      record { layout = layout; stock = stock.after; orders = orders.after; scripts = scripts_of desks.after },
      record {
        layout = said;
        stock = table_said (stock_after layout) empty_stock stock_heading (stock_records size.aisles) _ refl refl
            (stock_bare (stock_records size.aisles)) stock;
        orders = table_said (orders_after stock.after.articles) [] orders_heading (orders_records size.aisles number size.orders) _ refl refl
            (orders_bare (orders_records size.aisles number size.orders)) orders;
        desks = ap (λ read. and_then read (λ commands. Ok (scripts_of commands)))
            (table_said script_after [] desks_heading (desks_records size) _ refl refl (desks_bare (desks_records size)) desks);
      },
    )
