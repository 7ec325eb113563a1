-- No made text is longer than a file may be.
use Rattle.std.proofs.Common.{◌≡◌, refl, sym, ap, subst, ◌⊎◌, ⊎_elim, Bool, if◌then◌else◌, ℕ, ◌+◌, ◌*◌, ◌/◌, ◌<◌, ◌≤◌, List, [], ◌∷◌, ◌++◌, codes, length}
use Rattle.std.proofs.Common.{arith, length-append, lit<, lit≤}
use Rattle.std.specs.Prelude.{min, ◌-◌}
use Rattle.std.specs.Fmt.{decimal, digits}
use Rattle.std.specs.List.{range_with_len}
use Rattle.std.proofs.lemmas.Fmt.{length-decimal-le}
use Rattle.std.proofs.lemmas.List.{length-map}
use Rattle.std.proofs.lemmas.List.FromFn.{length-range_with_len}
use Rattle.std.proofs.Math.Nat.{min-le_left}
use Rattle.wp_layout.specs.LayoutText.{first_text, layout_text, second_text}
use Rattle.wp_model.specs.Journal.{line}
use Rattle.wp_model.specs.Warehouse.{spacing_after}
use Rattle.wp_tables.specs.DeskFile.{desks_heading}
use Rattle.wp_tables.specs.OrderFile.{orders_heading}
use Rattle.wp_tables.specs.StockFile.{stock_heading}
use Rattle.wp_draws.specs.Draws.{next_state, state_after}
use Rattle.wp_make.specs.Lines.{after_orders, line_count, line_from, made_slots, order_lines}
use Rattle.wp_make.specs.Records.{aisle_records, desks_records, line_record, order_name, order_records, orders_records, stock_record, stock_records}
use Rattle.wp_make.specs.Records.{wave_records}
use Rattle.wp_make.specs.Sizes.{IsSize, orders_of_wave, wave_count}
use Rattle.wp_make.specs.Texts.{AreShort, made_layout, made_texts}
use Rattle.wp_make.specs.declared.input.Size.{Size}
use Rattle.wp_make.proofs.DesksRead.{desks_made}
use Rattle.wp_make.proofs.LayoutRead.{made_even, made_spacing}
use Rattle.wp_make.proofs.Lengths.{count_each, count_mapped, field_count, table_short}
use Rattle.wp_make.proofs.OrdersRead.{HasArticles, few_lines, orders_made}
use Rattle.wp_make.proofs.StockRead.{stock_made}

aisle_count : (aisle : ℕ) → field_count (aisle_records aisle) ≤ 120
unfolding aisle_records
aisle_count aisle =
    omega (arith, count_mapped (stock_record aisle) 3 (range_with_len 1 made_slots) (λ slot. omega arith), length-range_with_len 1 made_slots)

stock_count : (aisles : ℕ) → field_count (stock_records aisles) ≤ 120 * aisles
stock_count aisles = count_each aisle_records 120 1 aisles (λ aisle low high. aisle_count aisle)

line_number : (aisles start : ℕ) → length (order_lines aisles start) ≡ line_count start
line_number aisles start =
    let numbers = range_with_len 0 (line_count start) in
    omega (
      arith,
      length-map numbers (λ line. line_from aisles (state_after (3 * line) (next_state start))),
      length-range_with_len 0 (line_count start),
    )

order_count : (aisles state orders : ℕ) → field_count (order_records aisles state orders) ≤ 9
order_count aisles state orders =
    let start = after_orders orders state in
    omega (
      arith,
      count_mapped (line_record (orders + 1)) 3 (order_lines aisles start) (λ line. omega arith),
      line_number aisles start,
      few_lines start,
    )

orders_count : (aisles state count : ℕ) → field_count (orders_records aisles state count) ≤ 9 * count
orders_count aisles state count = count_each (order_records aisles state) 9 0 count (λ orders low high. order_count aisles state orders)

wave_fields : (size : Size) (waves : ℕ) → IsSize size → field_count (wave_records size waves) ≤ 70
wave_fields size waves is =
    let orders = orders_of_wave size waves in
    omega (
      arith,
      length-map orders order_name,
      length-range_with_len (waves * size.wave + 1) (min size.wave (size.orders - waves * size.wave)),
      min-le_left size.wave (size.orders - waves * size.wave),
      is.wave,
    )

desks_count : (size : Size) → IsSize size → field_count (desks_records size) ≤ 70 * wave_count size
desks_count size is = count_each (wave_records size) 70 0 (wave_count size) (λ waves low high. wave_fields size waves is)

two_digits : (n : ℕ) → n < 100 → length (decimal n) ≤ 2
two_digits n small = length-decimal-le 2 n (lit< tt) (omega (arith, small)) (omega (arith, small))

-- a text with a further key and a number of two digits at most
with_number : (before key : List ℕ) (n b k : ℕ) → length before ≤ b → length key ≤ k → n < 100 → length (before ++ key ++ decimal n) ≤ b + (k + 2)
with_number before key n b k short short' small =
    omega (arith, length-append (before ++ key) (decimal n), length-append before key, two_digits n small, short, short')

-- the text of a made layout of one aisle
alone_short : length (line (second_text (made_layout 1))) ≤ 120
unfolding digits
alone_short = lit≤ tt

-- that of one with more
first_short : (aisles : ℕ) → aisles ≤ 64 → spacing_after (made_layout aisles) 1 < 100 → length (line (first_text (made_layout aisles))) ≤ 100
first_short aisles few near =
    let depot = (aisles + 1) / 2 in
    let aisles_text = codes "{\"aisles\":" ++ decimal aisles in
    let clearance_text = aisles_text ++ codes ",\"clearance\":" ++ decimal 1 in
    let depot_text = clearance_text ++ codes ",\"depot\":" ++ decimal depot in
    let pitch_text = depot_text ++ codes ",\"pitch\":" ++ decimal 2 in
    let slots_text = pitch_text ++ codes ",\"slots\":" ++ decimal 40 in
    let clearance = with_number aisles_text (codes ",\"clearance\":") 1 12 13 (first (omega (arith, few))) (lit≤ tt) (lit< tt) in
    let upto_depot = with_number clearance_text (codes ",\"depot\":") depot 27 9 clearance (lit≤ tt) (omega (arith, few)) in
    let pitch = with_number depot_text (codes ",\"pitch\":") 2 38 9 upto_depot (lit≤ tt) (lit< tt) in
    let slots = with_number pitch_text (codes ",\"slots\":") 40 49 9 pitch (lit≤ tt) (lit< tt) in
    let spacing = with_number slots_text (codes ",\"spacing\":") (spacing_after (made_layout aisles) 1) 60 11 slots (lit≤ tt) near in
    last (slots_text ++ codes ",\"spacing\":" ++ decimal (spacing_after (made_layout aisles) 1)) spacing
  where
    first : aisles < 100 → length (codes "{\"aisles\":" ++ decimal aisles) ≤ 12
    first small = omega (arith, length-append (codes "{\"aisles\":") (decimal aisles), two_digits aisles small)

    last : (before : List ℕ) → length before ≤ 73 → length (line (before ++ codes ",\"version\":1}")) ≤ 100
    last before short =
        omega (arith, short, length-append before (codes ",\"version\":1}"), length-append (before ++ codes ",\"version\":1}") (10 ∷ []))

layout_short : (aisles : ℕ) → 1 ≤ aisles → aisles ≤ 64 → length (line (layout_text (made_layout aisles))) ≤ 120
layout_short aisles some few = ⊎_elim (λ one. subst (λ (n : ℕ). length (line (layout_text (made_layout n))) ≤ 120) (sym one) alone_short)
    (λ more. together more) (cases aisles some)
  where
    cases : (n : ℕ) → 1 ≤ n → (n ≡ 1) ⊎ (2 ≤ n)
    cases n low = grind arith

    together : 2 ≤ aisles → length (line (layout_text (made_layout aisles))) ≤ 120
    together more =
        let layout = made_layout aisles in
        let text : layout_text layout ≡ first_text layout =
        ap (λ (b : Bool). if b then first_text layout else second_text layout) (made_even aisles more) in
        let short = first_short aisles few (let w = made_spacing aisles more in omega (arith, w)) in
        let same = ap (λ (t : List ℕ). length (line t)) text in omega (arith, short, same)

-- the texts that are made of a size
pub day_short : (number : ℕ) (size : Size) → IsSize size → AreShort (made_texts number size)
day_short number size is =
    let stock = stock_made size.aisles is.aisles in
    let there : HasArticles size.aisles stock.after.articles =
    λ aisle slot place inside. stock.keeps.there aisle slot place (omega (arith, place.last_slot)) in
    let orders = orders_made size.aisles number size.orders stock.after.articles is.some_aisles is.aisles there is.orders in
    let desks = desks_made size is in
    record {
      layout = omega (arith, layout_short size.aisles is.some_aisles is.aisles);
      stock = omega (arith, table_short stock_heading (stock_records size.aisles) refl stock.named, stock_count size.aisles, is.aisles);
      orders = omega (
        arith,
        table_short orders_heading (orders_records size.aisles number size.orders) refl orders.named,
        orders_count size.aisles number size.orders,
        is.orders,
      );
      desks = omega (arith, table_short desks_heading (desks_records size) refl desks.named, desks_count size is, is.waves);
    }
