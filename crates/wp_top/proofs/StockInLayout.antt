-- The rows of a stock that was read of a layout lie in the layout.
use Rattle.std.proofs.Common.{◌≡◌, refl, subst, Bool, true, false, List, [], ◌∷◌, Result, Ok, Err}
use Rattle.std.specs.Prelude.{ℕ, ◌&&◌, nat_le, nat_lt, length, if◌then◌else◌}
use Rattle.std.proofs.lemmas.Bool.{leb-true}
use Rattle.std.proofs.lemmas.List.Elements.{All-cons, All-head, All-nil, All-tail}
use Rattle.std.specs.List.{All, list_any}
use Rattle.wp_model.specs.Location.{is_before}
use Rattle.wp_model.specs.Opening.{Stock}
use Rattle.wp_model.specs.Outcomes.{and_then}
use Rattle.wp_model.specs.TableLines.{Record, add_line, empty_stock, join, lies_at, put_row, row_of}
use Rattle.wp_model.specs.Warehouse.{IsSlot, Layout}
use Rattle.wp_model.specs.declared.line.StockLine.{StockLine}
use Rattle.wp_model.specs.declared.location.Location.{Location}
use Rattle.wp_model.specs.declared.row.StockRow.{StockRow}
use Rattle.wp_planner.specs.Released.{LiesIn}
use Rattle.wp_planner.specs.Slots.{slot_at}
use Rattle.wp_model.specs.Limits.{most_on_hand, most_rows}
use Rattle.wp_tables.specs.Fields.{Three, location_read, number_read, three_texts}
use Rattle.wp_tables.specs.Reading.{at_row, made_by, under_heading}
use Rattle.wp_tables.specs.Records.{Kept, kept_in}
use Rattle.wp_tables.specs.StockFile.{article_with_room, free_location, is_inside, line_of_three, stock_after, stock_heading, stock_line_of, stock_said}
use Rattle.wp_tables.specs.declared.fault.Why.{Why}
use Rattle.wp_tables.specs.declared.fault.Why.TheVariants as why

-- what goes on gives what comes of it
gone_on : {A B E : Type 0} (first : Result A E) (next : A → Result B E) (out : B) → and_then first next ≡ Ok out
    → (x : A) × (first ≡ Ok x) × (next x ≡ Ok out)
gone_on (Ok x) next out is = (x, refl, is)
gone_on (Err why) next out is = absurd (cc is)

-- what a record gives with its number it gives
row_given : {A : Type 0} (number : ℕ) (given : Result A Why) (x : A) → at_row number given ≡ Ok x → given ≡ Ok x
row_given number (Ok y) x is = cc is
row_given number (Err why) x is = absurd (cc is)

-- what records make keeps what each of them keeps
made_keeps : {A : Type 0} (P : A → Type 0) (next : A → Record → Result A Why)
    → ((made : A) (fields : Record) (out : A) → P made → next made fields ≡ Ok out → P out) → (made : A) (records : List Kept) (out : A) → P made
    → made_by next made records ≡ Ok out → P out
made_keeps P next keeps made [] out p is = subst P (cc is) p
made_keeps P next keeps made (kept ∷ more) out p is =
    let one = gone_on (at_row kept.number (next made kept.fields)) (λ m. made_by next m more) out is in
    made_keeps P next keeps one.0 more out (keeps made kept.fields one.0 p (row_given kept.number (next made kept.fields) one.0 one.1)) one.2

both : (x y : Bool) → (x && y) ≡ true → (x ≡ true) × (y ≡ true)
both true y is = (refl, is)
both false y is = absurd (cc is)

-- a location in a layout is at one of its slots
inside_is_slot : (layout : Layout) (location : Location) → is_inside layout location ≡ true → IsSlot layout (slot_at location)
inside_is_slot layout location is =
    let one = both (nat_le 1 location.aisle && nat_le location.aisle layout.aisles && nat_le 1 location.slot) (nat_le location.slot layout.slots) is in
    let two = both (nat_le 1 location.aisle && nat_le location.aisle layout.aisles) (nat_le 1 location.slot) one.0 in
    let three = both (nat_le 1 location.aisle) (nat_le location.aisle layout.aisles) two.0 in record {
      aisle = (leb-true 1 location.aisle three.0, leb-true location.aisle layout.aisles three.1);
      slot = (leb-true 1 location.slot two.1, leb-true location.slot layout.slots one.1);
    }

-- the location of a further row is at a slot of the layout
location_inside : (layout : Layout) (stock : Stock) (field : List ℕ) (location : Location) → free_location layout stock field ≡ Ok location
    → IsSlot layout (slot_at location)
location_inside layout stock field location is =
    let read = gone_on (location_read field) _ location is in
    by read.0 (is_inside layout read.0) (list_any (lies_at read.0) stock.rows) refl read.2
  where
    by : (x : Location) (inside there : Bool) → is_inside layout x ≡ inside
        → (if inside then (if there then Err why.LocationTwice else Ok x) else Err why.UnknownLocation) ≡ Ok location
        → IsSlot layout (slot_at location)
    by x true true is on = absurd (cc on)
    by x true false is on = subst (λ l. IsSlot layout (slot_at l)) (same on) (inside_is_slot layout x is)
      where
        same : {E : Type 0} → ◌≡◌ {A = Result Location E} (Ok x) (Ok location) → x ≡ location
        same on = cc on
    by x false there is on = absurd (cc on)

-- so is that of the line that a record writes
line_inside : (layout : Layout) (stock : Stock) (fields : Record) (line : StockLine) → stock_line_of layout stock fields ≡ Ok line
    → IsSlot layout (slot_at line.location)
line_inside layout stock fields line is = by (nat_lt (length stock.rows) most_rows) is
  where
    of_three : (three : Three (List ℕ)) → line_of_three layout stock three ≡ Ok line → IsSlot layout (slot_at line.location)
    of_three three on =
        let location = gone_on (free_location layout stock three.0) _ line on in
        let article = gone_on (article_with_room stock three.1) _ line location.2 in
        let number = gone_on (number_read 0 most_on_hand three.2) _ line article.2 in
        let same : location.0 ≡ line.location = cc (number.2) in
        subst (λ l. IsSlot layout (slot_at l)) same (location_inside layout stock three.0 location.0 location.1)

    by : (room : Bool) → (if room then and_then (three_texts fields) (line_of_three layout stock) else Err why.TooManyRows) ≡ Ok line
        → IsSlot layout (slot_at line.location)
    by true on = let three = gone_on (three_texts fields) _ line on in of_three three.0 three.2
    by false on = absurd (cc on)

-- of two lists the one that a test chooses
either_way : (P : StockRow → Type 0) (test : Bool) (xs ys : List StockRow) → All P xs → All P ys → All P (if test then xs else ys)
either_way P true xs ys one other = one
either_way P false xs ys one other = other

-- a row in its place among rows
put_keeps : (P : StockRow → Type 0) (row : StockRow) (rows : List StockRow) → P row → All P rows → All P (put_row row rows)
put_keeps P row [] p all = All-cons P row [] p (All-nil P)
put_keeps P row (r ∷ rows) p all =
    either_way P (is_before row.location r.location) (row ∷ r ∷ rows) (r ∷ put_row row rows) (All-cons P row (r ∷ rows) p all)
    (All-cons P r (put_row row rows) (All-head P r rows all) (put_keeps P row rows p (All-tail P r rows all)))

-- with one more line the stock still lies in the layout
after_inside : (layout : Layout) (stock : Stock) (fields : Record) (out : Stock) → LiesIn layout stock → stock_after layout stock fields ≡ Ok out
    → LiesIn layout out
after_inside layout stock fields out lies is =
    let line = gone_on (stock_line_of layout stock fields) _ out is in
    let same : add_line stock line.0 ≡ out = cc (line.2) in
    subst (LiesIn layout) same
    (put_keeps (λ row. IsSlot layout (slot_at row.location)) (row_of (join stock.articles line.0.article) line.0) stock.rows
    (line_inside layout stock fields line.0 line.1) lies)

-- the rows of a stock that a stock file says of a layout lie in the layout
pub said_lies_in : (layout : Layout) (text : List ℕ) (stock : Stock) → stock_said layout text ≡ Ok stock → LiesIn layout stock
said_lies_in layout text stock is =
    let under = gone_on (under_heading stock_heading (kept_in text)) _ stock is in
    made_keeps (LiesIn layout) (stock_after layout) (λ made fields out lies on. after_inside layout made fields out lies on) empty_stock under.0 stock
    (All-nil (λ row. IsSlot layout (slot_at row.location)))
    under.2
