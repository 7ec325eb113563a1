-- The made orders are read, line by line.
use Rattle.std.proofs.Common.{◌≡◌, ◌∙◌, refl, sym, subst, ℕ, ◌+◌, ◌*◌, ◌<◌, ◌≤◌, Bool, true, false, List, [], ◌∷◌, ◌++◌, length, arith, length-append, lit<}
use Rattle.std.proofs.Common.{lit≤, lt-ltb, le-leb}
use Rattle.std.specs.Prelude.{◌||◌, nat_lt, if◌then◌else◌, Ok, Err, map}
use Rattle.std.specs.List.{list_all, range_with_len}
use Rattle.std.specs.Str.{bytes_eq}
use Rattle.std.proofs.lemmas.Slice.Eq.{bytes_eq-Decides}
use Rattle.wp_model.specs.Limits.{most_aisles, most_file_orders, most_lines}
use Rattle.wp_model.specs.Name.{is_name}
use Rattle.wp_model.specs.Opening.{Order, is_known_order, lines_of}
use Rattle.wp_model.specs.Step.{is_among}
use Rattle.wp_model.specs.TableLines.{add_order_line, number_among}
use Rattle.wp_model.specs.declared.line.OrderLine.{OrderLine}
use Rattle.wp_model.proofs.OrderLists.{added_length}
use Rattle.wp_tables.specs.OrderFile.{order_line_of, order_with_room, orders_after}
use Rattle.wp_tables.specs.declared.fault.Why.TheVariants as why
use Rattle.wp_draws.specs.Draws.{draw_at, state_after}
use Rattle.wp_make.specs.Lines.{after_orders, line_count, line_from, made_slots}
use Rattle.wp_make.specs.Records.{article_name, line_record, order_name, order_records, orders_records}
use Rattle.wp_make.specs.declared.generator.MadeLine.{MadeLine}
use Rattle.wp_make.proofs.Growth.{mapped}
use Rattle.wp_make.proofs.Lines.{named_texts}
use Rattle.wp_make.proofs.Making.{Makes, makes_each, makes_each_one, makes_one}
use Rattle.wp_make.proofs.ReadBack.{one_order, small_back}
use Rattle.wp_make.proofs.StockRead.{IsPlace, small_aisle, small_slot}
use Rattle.wp_make.proofs.Words.{IsSmall, and_true, article_named, number_named, order_named}

-- there is an article for each slot of so many aisles
abbrev pub HasArticles : ℕ → List (List ℕ) → Type 0
HasArticles aisles articles = (aisle slot : ℕ) → IsPlace aisle slot → aisle ≤ aisles → is_among articles (article_name aisle slot) ≡ true

-- the number of an order that there may be
abbrev pub IsNumber : ℕ → Type 0
IsNumber number = number ≤ most_file_orders + 1

small_number : (number : ℕ) → IsNumber number → IsSmall number
small_number number is = record { below = omega arith }

-- so many orders were read, and so many lines of the next; there is room for it, and none of those after it is known
pub record HasOrders (count lines : ℕ) (orders : List Order) : Type 0 where
  pub few : length orders ≤ count + 1
  pub room : is_known_order orders (order_name (count + 1)) ≡ false → length orders ≤ count
  pub short : length (lines_of orders (order_name (count + 1))) ≤ lines
  pub later : (number : ℕ) → count + 1 < number → IsNumber number → is_known_order orders (order_name number) ≡ false

-- a line that lies in one of so many aisles
record IsMadeLine (aisles : ℕ) (line : MadeLine) : Type 0 where
  place : IsPlace line.aisle line.slot
  inside : line.aisle ≤ aisles
  some : 1 ≤ line.quantity
  most : line.quantity ≤ 5

draw_below : (state below : ℕ) → 0 < below → draw_at state below < below
unfolding draw_at
draw_below state below some = omega arith

made_line : (aisles state : ℕ) → 1 ≤ aisles → aisles ≤ most_aisles → IsMadeLine aisles (line_from aisles state)
made_line aisles state some most = record {
  place = record {
    first_aisle = omega arith;
    last_aisle = omega (arith, draw_below (state_after 1 state) aisles some);
    first_slot = omega arith;
    last_slot = omega (arith, draw_below (state_after 2 state) made_slots (lit< tt));
  };
  inside = omega (arith, draw_below (state_after 1 state) aisles some);
  some = omega arith;
  most = omega (arith, draw_below (state_after 3 state) 5 (lit< tt));
}

-- an order has three lines at most
pub few_lines : (state : ℕ) → line_count state ≤ 3
few_lines state = omega (arith, draw_below (state_after 1 state) 3 (lit< tt))

has_room : (count lines : ℕ) (orders : List Order) → count < most_file_orders → lines < most_lines → HasOrders count lines orders
    → order_with_room orders (order_name (count + 1)) ≡ Ok (order_name (count + 1))
has_room count lines orders few short has =
    cases (is_known_order orders (order_name (count + 1))) (λ unknown. lt-ltb (length orders) most_file_orders (omega (arith, has.room unknown)))
    (lt-ltb (length (lines_of orders (order_name (count + 1)))) most_lines (omega (arith, has.short)))
  where
    cases : (b : Bool) → (b ≡ false → nat_lt (length orders) most_file_orders ≡ true)
        → nat_lt (length (lines_of orders (order_name (count + 1)))) most_lines ≡ true
        → (if b then (if nat_lt (length (lines_of orders (order_name (count + 1)))) most_lines then Ok (order_name (count + 1)) else Err why.TooManyLines)
        else if nat_lt (length orders) most_file_orders then Ok (order_name (count + 1)) else Err why.TooManyOrders) ≡ Ok (order_name (count + 1))
    cases true new known = rw known refl
    cases false new known = rw (new refl) refl

-- the line of a record
abbrev line_of : List (List ℕ) → ℕ → MadeLine → OrderLine
line_of articles number line =
    record { order = order_name number; line = record { article = number_among articles (article_name line.aisle line.slot); quantity = line.quantity } }

line_named : (aisles number : ℕ) (line : MadeLine) → IsNumber number → IsMadeLine aisles line → list_all is_name (line_record number line) ≡ true
line_named aisles number line is made =
    let units : IsSmall line.quantity = record { below = omega (arith, made.most) } in
    and_true _ _ (order_named number (small_number number is))
    (and_true _ _ (article_named line.aisle line.slot (small_aisle line.aisle line.slot made.place) (small_slot line.aisle line.slot made.place))
    (and_true _ _ (number_named line.quantity units) refl))

line_read : (aisles count lines : ℕ) (articles : List (List ℕ)) (orders : List Order) (line : MadeLine) → HasArticles aisles articles
    → count < most_file_orders → lines < most_lines → HasOrders count lines orders → IsMadeLine aisles line
    → order_line_of articles orders (line_record (count + 1) line) ≡ Ok (line_of articles (count + 1) line)
line_read aisles count lines articles orders line there few short has made =
    let number : IsNumber (count + 1) = omega arith in
    let named = article_named line.aisle line.slot (small_aisle line.aisle line.slot made.place) (small_slot line.aisle line.slot made.place) in
    let units : IsSmall line.quantity = record { below = omega (arith, made.most) } in
    rw (
      named_texts (line_record (count + 1) line) (line_named aisles (count + 1) line number made),
      order_named (count + 1) (small_number (count + 1) number),
      has_room count lines orders few short has,
      named,
      there line.aisle line.slot made.place made.inside,
      small_back 18 line.quantity (lit≤ tt) units,
      le-leb 1 line.quantity made.some,
      le-leb line.quantity 100000 (omega (arith, made.most)),
    ) refl

same_name : (name : List ℕ) → bytes_eq name name ≡ true
same_name name = (bytes_eq-Decides name name).1 refl

lines_more : (orders : List Order) (line : OrderLine) → length (lines_of (add_order_line orders line) line.order) ≡ length (lines_of orders line.order) + 1
lines_more [] line = rw (same_name line.order) refl
lines_more (order ∷ orders) line = cases (bytes_eq order.name line.order) refl (lines_more orders line)
  where
    cases : (b : Bool) → bytes_eq order.name line.order ≡ b
        → length (lines_of (add_order_line orders line) line.order) ≡ length (lines_of orders line.order) + 1
        → length (lines_of (if b then record order { lines = order.lines ++ line.line ∷ [] } ∷ orders else order ∷ add_order_line orders line) line.order)
        ≡ length (if b then order.lines else lines_of orders line.order) + 1
    cases true is rest = rw is (length-append order.lines (line.line ∷ []))
    cases false is rest = rw is rest

known_more : (orders : List Order) (line : OrderLine) (name : List ℕ) → bytes_eq line.order name ≡ false → is_known_order orders name ≡ false
    → is_known_order (add_order_line orders line) name ≡ false
known_more [] line name other unknown = rw other refl
known_more (order ∷ orders) line name other unknown = cases (bytes_eq order.name line.order) (known_more orders line name other)
  where
    neither : (p q : Bool) → (p || q) ≡ false → (p ≡ false) × (q ≡ false)
    neither false q e = (refl, e)
    neither true q e = absurd (cc e)

    cases : (b : Bool) → (is_known_order orders name ≡ false → is_known_order (add_order_line orders line) name ≡ false)
        → is_known_order (if b then record order { lines = order.lines ++ line.line ∷ [] } ∷ orders else order ∷ add_order_line orders line) name ≡ false
    cases true rest = unknown
    cases false rest = let parts = neither (bytes_eq order.name name) (is_known_order orders name) unknown in rw (parts.0, rest parts.1) refl

known_now : (orders : List Order) (line : OrderLine) → is_known_order (add_order_line orders line) line.order ≡ true
known_now [] line = rw (same_name line.order) refl
known_now (order ∷ orders) line = cases (bytes_eq order.name line.order) refl (known_now orders line)
  where
    after_any : (p : Bool) → (p || true) ≡ true
    after_any true = refl
    after_any false = refl

    cases : (b : Bool) → bytes_eq order.name line.order ≡ b → is_known_order (add_order_line orders line) line.order ≡ true
        → is_known_order (if b then record order { lines = order.lines ++ line.line ∷ [] } ∷ orders else order ∷ add_order_line orders line) line.order ≡ true
    cases true is rest = rw is refl
    cases false is rest = rw rest (after_any (bytes_eq order.name line.order))

-- one more line of the next order
line_more : (aisles count lines : ℕ) (articles : List (List ℕ)) (orders : List Order) (line : MadeLine) → count < most_file_orders
    → HasOrders count lines orders
    → HasOrders count (lines + 1) (add_order_line orders (line_of articles (count + 1) line))
line_more aisles count lines articles orders line few has =
    let next = line_of articles (count + 1) line in
    let known = is_known_order orders (order_name (count + 1)) in
    record {
      few = rw (added_length orders next) (within known (length orders) has.few has.room);
      room = λ unknown. absurd (cc (sym (known_now orders next) ∙ unknown));
      short = omega (arith, lines_more orders next, has.short);
      later = λ number after is. known_more orders next (order_name number) (apart number after is) (has.later number after is);
    }
  where
    within : (b : Bool) (n : ℕ) → n ≤ count + 1 → (b ≡ false → n ≤ count) → n + (if b then 0 else 1) ≤ count + 1
    within true n most room = omega arith
    within false n most room = omega (arith, room refl)

    differs : (b : Bool) → (b ≡ true → ⊥) → b ≡ false
    differs true h = absurd (h refl)
    differs false h = refl

    apart : (number : ℕ) → count + 1 < number → IsNumber number → bytes_eq (order_name (count + 1)) (order_name number) ≡ false
    apart number after is =
        differs _ (λ e.
        let same = one_order (count + 1) number (small_number (count + 1) (omega arith)) (small_number number is)
        ((bytes_eq-Decides (order_name (count + 1)) (order_name number)).0 e) in
        absurd (omega (arith, same)))

line_made : (aisles count lines : ℕ) (articles : List (List ℕ)) (orders : List Order) (line : MadeLine) → HasArticles aisles articles
    → count < most_file_orders → lines < most_lines → HasOrders count lines orders → IsMadeLine aisles line
    → Makes (orders_after articles) orders (line_record (count + 1) line ∷ []) (HasOrders count (lines + 1))
line_made aisles count lines articles orders line there few short has made =
    makes_one (orders_after articles) orders (add_order_line orders (line_of articles (count + 1) line)) (line_record (count + 1) line)
    (HasOrders count (lines + 1)) (rw (line_read aisles count lines articles orders line there few short has made) refl)
    (line_named aisles (count + 1) line (omega arith) made) (line_more aisles count lines articles orders line few has)

unknown_lines : (orders : List Order) (name : List ℕ) → is_known_order orders name ≡ false → length (lines_of orders name) ≡ 0
unknown_lines [] name unknown = refl
unknown_lines (order ∷ orders) name unknown = cases (bytes_eq order.name name) unknown (unknown_lines orders name)
  where
    cases : (b : Bool) → (b || is_known_order orders name) ≡ false → (is_known_order orders name ≡ false → length (lines_of orders name) ≡ 0)
        → length (if b then order.lines else lines_of orders name) ≡ 0
    cases true unknown rest = absurd (cc unknown)
    cases false unknown rest = rest unknown

-- after its lines it is one of the orders
order_done : (count lines : ℕ) (orders : List Order) → count < most_file_orders → HasOrders count lines orders → HasOrders (count + 1) 0 orders
order_done count lines orders few has =
    let unknown = has.later (count + 1 + 1) (omega arith) (omega arith) in
    record {
      few = omega (arith, has.few);
      room = λ none. has.few;
      short = omega (arith, unknown_lines orders (order_name (count + 1 + 1)) unknown);
      later = λ number after is. has.later number (omega arith) is;
    }

-- the records of an order
order_made : (aisles state count : ℕ) (articles : List (List ℕ)) (orders : List Order) → 1 ≤ aisles → aisles ≤ most_aisles → HasArticles aisles articles
    → count < most_file_orders → HasOrders count 0 orders
    → Makes (orders_after articles) orders (order_records aisles state count) (HasOrders (count + 1) 0)
order_made aisles state count articles orders some most there few has =
    let start = after_orders count state in
    let first = state_after 1 start in
    let record_of : ℕ → List (List ℕ) = λ line. line_record (count + 1) (line_from aisles (state_after (3 * line) first)) in
    let made = makes_each_one (orders_after articles) record_of (HasOrders count) (line_count start) 0
    (λ lines orders low high has. line_made aisles count lines articles orders (line_from aisles (state_after (3 * lines) first)) there few
    (omega (arith, few_lines start)) has (made_line aisles (state_after (3 * lines) first) some most)) orders has in
    let is : map record_of (range_with_len 0 (line_count start)) ≡ order_records aisles state count =
    mapped (line_record (count + 1)) (λ line. line_from aisles (state_after (3 * line) first)) (range_with_len 0 (line_count start)) in
    subst (λ records. Makes (orders_after articles) orders records (HasOrders (count + 1) 0)) is
    (record { after = made.after; is = made.is; named = made.named; keeps = order_done count (0 + line_count start) made.after few made.keeps })

no_orders : HasOrders 0 0 []
no_orders = record { few = omega arith; room = λ none. omega arith; short = omega arith; later = λ number after is. refl }

-- the records of all orders
pub orders_made : (aisles state count : ℕ) (articles : List (List ℕ)) → 1 ≤ aisles → aisles ≤ most_aisles → HasArticles aisles articles
    → count ≤ most_file_orders → Makes (orders_after articles) [] (orders_records aisles state count) (HasOrders (0 + count) 0)
orders_made aisles state count articles some most there few =
    makes_each (orders_after articles) (order_records aisles state) (λ count. HasOrders count 0) count 0
    (λ orders made low high has. order_made aisles state orders articles made some most there (omega arith) has) [] no_orders
