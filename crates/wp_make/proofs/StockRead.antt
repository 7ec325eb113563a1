-- The made stock is read, row by row.
use Rattle.std.proofs.Common.{◌≡◌, ◌∙◌, ⊎_elim, refl, sym, ap, ap₂, subst, ℕ, ◌+◌, ◌*◌, ◌<◌, ◌≤◌, Bool, true, false, List, [], ◌∷◌, ◌++◌, length, arith}
use Rattle.std.proofs.Common.{length-append, lit<, lit≤, lt-ltb, le-leb}
use Rattle.std.specs.Prelude.{◌&&◌, ◌||◌, ◌==◌, nat_lt, if◌then◌else◌, Ok}
use Rattle.std.specs.Fmt.{decimal}
use Rattle.std.specs.List.{AllByRecursion, list_all, list_any}
use Rattle.std.specs.Str.{bytes_eq}
use Rattle.std.proofs.lemmas.Bool.{cases_lt}
use Rattle.std.proofs.lemmas.Bool.Decides.{nat_tests}
use Rattle.std.proofs.lemmas.List.Folds.{list_any-append}
use Rattle.std.proofs.lemmas.Slice.Eq.{bytes_eq-Decides}
use Rattle.wp_model.specs.Limits.{most_aisles}
use Rattle.wp_model.specs.Location.{is_before}
use Rattle.wp_model.specs.Name.{is_name}
use Rattle.wp_model.specs.Opening.{Stock}
use Rattle.wp_model.specs.Step.{is_among, same_location}
use Rattle.wp_model.specs.TableLines.{add_line, empty_stock, join, lies_at, number_among, places_named, put_row, row_of}
use Rattle.wp_model.specs.Tables.{places_of}
use Rattle.wp_model.specs.declared.line.StockLine.{StockLine}
use Rattle.wp_model.specs.declared.row.StockRow.{StockRow}
use Rattle.wp_model.proofs.NameEq.{number_joined}
use Rattle.wp_model.proofs.RowLists.{all_put, all_weaker, join_new, length_put, number_new}
use Rattle.wp_tables.specs.StockFile.{stock_after, stock_line_of}
use Rattle.wp_make.specs.Lines.{made_slots}
use Rattle.wp_make.specs.Records.{aisle_records, article_name, made_on_hand, stock_record, stock_records}
use Rattle.wp_make.specs.Texts.{made_layout}
use Rattle.wp_make.proofs.Lines.{named_texts}
use Rattle.wp_make.proofs.Making.{Makes, makes_each, makes_each_one, makes_one}
use Rattle.wp_make.proofs.ReadBack.{location_back, number_back, one_article, slot_location}
use Rattle.wp_make.proofs.Words.{IsSmall, and_true, article_named, location_named, number_word, word_name}

-- a slot of a warehouse of any size
pub record IsPlace (aisle slot : ℕ) : Type 0 where
  pub first_aisle : 1 ≤ aisle
  pub last_aisle : aisle ≤ most_aisles
  pub first_slot : 1 ≤ slot
  pub last_slot : slot ≤ made_slots

pub small_aisle : (aisle slot : ℕ) → IsPlace aisle slot → IsSmall aisle
small_aisle aisle slot place = record { below = omega (arith, place.last_aisle) }

pub small_slot : (aisle slot : ℕ) → IsPlace aisle slot → IsSmall slot
small_slot aisle slot place = record { below = omega (arith, place.last_slot) }

-- each slot below a place, as slots are counted aisle by aisle, has its row and its article, and none from there on has
pub record HasRowsBelow (end : ℕ) (stock : Stock) : Type 0 where
  pub few : length stock.rows ≤ end
  pub free : (aisle slot : ℕ) → IsPlace aisle slot → end ≤ made_slots * aisle + slot → list_any (lies_at (slot_location aisle slot)) stock.rows ≡ false
  pub new : (aisle slot : ℕ) → IsPlace aisle slot → end ≤ made_slots * aisle + slot → is_among stock.articles (article_name aisle slot) ≡ false
  pub there : (aisle slot : ℕ) → IsPlace aisle slot → made_slots * aisle + slot < end → is_among stock.articles (article_name aisle slot) ≡ true
  pub known : AllByRecursion (λ row. row.article < length stock.articles) stock.rows

none_yet : HasRowsBelow (made_slots * 1 + 1) empty_stock
none_yet = record {
  few = omega arith;
  free = λ aisle slot place later. refl;
  new = λ aisle slot place later. refl;
  there = λ aisle slot place below. absurd (omega (arith, place.first_aisle, place.first_slot));
  known = tt;
}

no_place : (rows : List StockRow) (article : ℕ) → AllByRecursion (λ row. row.article < article) rows → places_of rows article ≡ 0
no_place [] article known = refl
no_place (row ∷ rows) article known = rw (other row.article known.0) (omega (arith, no_place rows article known.1))
  where
    other : (a : ℕ) → a < article → (a == article) ≡ false
    other a less = grind (arith, nat_tests)

-- the line of a slot
abbrev line_of : ℕ → ℕ → StockLine
line_of aisle slot = record { location = slot_location aisle slot; article = article_name aisle slot; on_hand = made_on_hand }

has_place : (stock : Stock) (name : List ℕ) → is_among stock.articles name ≡ false → AllByRecursion (λ row. row.article < length stock.articles) stock.rows
    → nat_lt (places_named stock name) 1000 ≡ true
has_place stock name new known =
    rw (number_new stock.articles name new, no_place stock.rows (length stock.articles) known) refl

slot_named : (aisle slot : ℕ) → IsSmall aisle → IsSmall slot → list_all is_name (stock_record aisle slot) ≡ true
slot_named aisle slot small small' =
    let units = word_name 7 (decimal made_on_hand) (lit≤ tt) (number_word 7 made_on_hand (lit< tt) (lit< tt) (lit< tt)) in
    and_true _ _ (location_named aisle slot small small') (and_true _ _ (article_named aisle slot small small') (and_true _ _ units refl))

-- a record of a slot in the layout, which has no row yet, is read as its line
line_read : (aisles aisle slot end : ℕ) (stock : Stock) → aisles ≤ most_aisles → aisle ≤ aisles → IsPlace aisle slot → end ≡ made_slots * aisle + slot
    → HasRowsBelow end stock → stock_line_of (made_layout aisles) stock (stock_record aisle slot) ≡ Ok (line_of aisle slot)
line_read aisles aisle slot end stock most inside place here has =
    let small = small_aisle aisle slot place in
    let small' = small_slot aisle slot place in
    let room : nat_lt (length stock.rows) 25600 ≡ true = lt-ltb (length stock.rows) 25600 (omega (arith, has.few, place.last_slot)) in
    let texts = named_texts (stock_record aisle slot) (slot_named aisle slot small small') in
    let first = le-leb 1 aisle place.first_aisle in
    let last = le-leb aisle aisles inside in
    let first' = le-leb 1 slot place.first_slot in
    let last' = le-leb slot made_slots place.last_slot in
    let later : end ≤ made_slots * aisle + slot = omega (arith, here) in
    rw (
      room,
      texts,
      location_back aisle slot small small',
      first,
      last,
      first',
      last',
      has.free aisle slot place later,
      article_named aisle slot small small',
      has_place stock (article_name aisle slot) (has.new aisle slot place later) has.known,
      number_back 18 7 made_on_hand (lit< tt) (lit≤ tt) (lit< tt) (lit< tt),
    ) refl

any_put : (p : StockRow → Bool) (row : StockRow) (rows : List StockRow) → list_any p (put_row row rows) ≡ (p row || list_any p rows)
any_put p row [] = refl
any_put p row (r ∷ rows) = cases (is_before row.location r.location) (any_put p row rows)
  where
    swap : (a b c : Bool) → (a || (b || c)) ≡ (b || (a || c))
    swap true true c = refl
    swap true false c = refl
    swap false b c = refl

    cases : (b : Bool) → list_any p (put_row row rows) ≡ (p row || list_any p rows)
        → list_any p (if b then row ∷ r ∷ rows else r ∷ put_row row rows) ≡ (p row || (p r || list_any p rows))
    cases true rest = refl
    cases false rest = ap (λ b. p r || b) rest ∙ swap (p r) (p row) (list_any p rows)

both_false : (p q : Bool) → p ≡ false → q ≡ false → (p || q) ≡ false
both_false p q e f = ap₂ (λ a b. a || b) e f

other_location : (aisle slot other next : ℕ) → IsPlace aisle slot → IsPlace other next → made_slots * aisle + slot < made_slots * other + next
    → same_location (slot_location aisle slot) (slot_location other next) ≡ false
other_location aisle slot other next place place' less = apart aisle slot other next place.last_slot place'.first_slot less
  where
    apart : (aisle slot other next : ℕ) → slot ≤ 40 → 1 ≤ next → 40 * aisle + slot < 40 * other + next → ((aisle == other) && (slot == next) && true) ≡ false
    apart aisle slot other next low high less = grind (arith, nat_tests)

other_article : (aisle slot other next : ℕ) → IsPlace aisle slot → IsPlace other next → made_slots * aisle + slot < made_slots * other + next
    → bytes_eq (article_name aisle slot) (article_name other next) ≡ false
other_article aisle slot other next place place' less =
    differs _ (λ e.
    let same = one_article aisle slot other next (small_aisle aisle slot place) (small_slot aisle slot place) (small_aisle other next place')
    (small_slot other next place') ((bytes_eq-Decides (article_name aisle slot) (article_name other next)).0 e) in
    absurd (omega (arith, same.0, same.1, less)))
  where
    differs : (b : Bool) → (b ≡ true → ⊥) → b ≡ false
    differs true h = absurd (h refl)
    differs false h = refl

one_more : (articles : List (List ℕ)) (name other : List ℕ)
    → is_among (articles ++ name ∷ []) other ≡ (is_among articles other || (bytes_eq name other || false))
one_more articles name other = list_any-append (λ n. bytes_eq n other) articles (name ∷ [])

or_left : (p q : Bool) → p ≡ true → (p || q) ≡ true
or_left p q e = rw e refl

or_right : (p q : Bool) → q ≡ true → (p || q) ≡ true
or_right true q e = refl
or_right false q e = e

one_slot : (aisle slot other next : ℕ) → IsPlace aisle slot → IsPlace other next → made_slots * other + next ≡ made_slots * aisle + slot
    → (aisle ≡ other) × (slot ≡ next)
one_slot aisle slot other next place place' same =
    let aisles : aisle ≡ other = omega (arith, place.first_slot, place.last_slot, place'.first_slot, place'.last_slot, same) in
    (aisles, omega (arith, aisles, same))

-- the row of a slot is the next
row_more : (aisle slot end : ℕ) (stock : Stock) → IsPlace aisle slot → end ≡ made_slots * aisle + slot → HasRowsBelow end stock
    → HasRowsBelow (end + 1) (add_line stock (line_of aisle slot))
row_more aisle slot end stock place here has =
    let name = article_name aisle slot in
    let articles = stock.articles ++ name ∷ [] in
    let fresh = has.new aisle slot place (omega (arith, here)) in
    let joined : join stock.articles name ≡ articles = join_new stock.articles name fresh in
    let row = row_of articles (line_of aisle slot) in
    let long = length-append stock.articles (name ∷ []) in
    let number : number_among articles name < length articles
    = omega (arith, long, ap (λ names. number_among names name) (sym joined) ∙ (number_joined name stock.articles ∙ number_new stock.articles name fresh))
    in
    rw joined (record {
      few = omega (arith, length_put row stock.rows, has.few);
      free = λ other next place' later. any_put (lies_at (slot_location other next)) row stock.rows
          ∙ both_false _ _ (other_location aisle slot other next place place' (omega (arith, later, here))) (has.free other next place' (omega (arith, later)));
      new = λ other next place' later. one_more stock.articles name (article_name other next)
          ∙ both_false _ _ (has.new other next place' (omega (arith, later)))
          (both_false _ _ (other_article aisle slot other next place place' (omega (arith, later, here))) refl);
      there = λ other next place' below. one_more stock.articles name (article_name other next)
          ∙ ⊎_elim (λ before. or_left _ _ (has.there other next place' before))
          (λ same. let slots = one_slot aisle slot other next place place' (omega (arith, same, here, below)) in
          or_right _ _ (or_left _ _ ((bytes_eq-Decides name (article_name other next)).1 (ap₂ article_name slots.0 slots.1))))
          (cases_lt (made_slots * other + next) end);
      known = all_put (λ r. r.article < length articles) row stock.rows number
          (all_weaker (λ r. r.article < length stock.articles) (λ r. r.article < length articles) (λ r is. omega (arith, is, long)) stock.rows has.known);
    })

-- the record of a slot
row_made : (aisles aisle slot : ℕ) (stock : Stock) → aisles ≤ most_aisles → aisle ≤ aisles → IsPlace aisle slot
    → HasRowsBelow (made_slots * aisle + slot) stock
    → Makes (stock_after (made_layout aisles)) stock (stock_record aisle slot ∷ []) (HasRowsBelow (made_slots * aisle + (slot + 1)))
row_made aisles aisle slot stock most inside place has =
    let small = small_aisle aisle slot place in
    let small' = small_slot aisle slot place in
    let next : (made_slots * aisle + slot) + 1 ≡ made_slots * aisle + (slot + 1) = omega arith in
    let line = line_read aisles aisle slot (made_slots * aisle + slot) stock most inside place refl has in
    makes_one (stock_after (made_layout aisles)) stock (add_line stock (line_of aisle slot)) (stock_record aisle slot)
    (HasRowsBelow (made_slots * aisle + (slot + 1))) (rw line refl) (slot_named aisle slot small small')
    (subst (λ end. HasRowsBelow end (add_line stock (line_of aisle slot))) next
    (row_more aisle slot (made_slots * aisle + slot) stock place refl has))

aisle_made : (aisles aisle : ℕ) (stock : Stock) → aisles ≤ most_aisles → 1 ≤ aisle → aisle ≤ aisles → HasRowsBelow (made_slots * aisle + 1) stock
    → Makes (stock_after (made_layout aisles)) stock (aisle_records aisle) (HasRowsBelow (made_slots * (aisle + 1) + 1))
unfolding aisle_records
aisle_made aisles aisle stock most some inside has =
    let end : made_slots * aisle + (1 + made_slots) ≡ made_slots * (aisle + 1) + 1 = omega arith in
    subst (λ end. Makes (stock_after (made_layout aisles)) stock (aisle_records aisle) (HasRowsBelow end)) end
    (makes_each_one (stock_after (made_layout aisles)) (stock_record aisle) (λ slot. HasRowsBelow (made_slots * aisle + slot)) made_slots 1
    (λ slot stock low high has. row_made aisles aisle slot stock most inside
    (record { first_aisle = some; last_aisle = omega arith; first_slot = low; last_slot = omega arith }) has) stock has)

-- the records of all aisles
pub stock_made : (aisles : ℕ) → aisles ≤ most_aisles
    → Makes (stock_after (made_layout aisles)) empty_stock (stock_records aisles) (HasRowsBelow (made_slots * (aisles + 1) + 1))
stock_made aisles most =
    let end : 1 + aisles ≡ aisles + 1 = omega arith in
    subst (λ end. Makes (stock_after (made_layout aisles)) empty_stock (stock_records aisles) (HasRowsBelow (made_slots * end + 1))) end
    (makes_each (stock_after (made_layout aisles)) aisle_records (λ aisle. HasRowsBelow (made_slots * aisle + 1)) aisles 1
    (λ aisle stock low high has. aisle_made aisles aisle stock most low (omega arith) has) empty_stock none_yet)
