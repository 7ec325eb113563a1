-- A stock keeps what every stock that was read keeps, line by line.
use Rattle.std.proofs.Common.{◌≡◌, ◌∙◌, refl, sym, ap, subst, ℕ, zero, suc, ◌+◌, ◌<◌, ◌≤◌, Bool, true, false, List, [], ◌∷◌, length, Some, arith, length-append}
use Rattle.std.specs.Prelude.{if◌then◌else◌, ◌++◌, ◌&&◌, ◌||◌, ◌==◌, nat_lt, slice_get}
use Rattle.std.specs.List.{AllByRecursion, list_any}
use Rattle.std.proofs.lemmas.Bool.{eqb-true}
use Rattle.std.proofs.lemmas.Bool.Decides.{nat_tests}
use Rattle.std.proofs.lemmas.List.Elements.{All-from_recursion, recursion_from_All}
use Rattle.std.specs.List.{All}
use Rattle.std.specs.Prelude.{IsTrue}
use Rattle.std.proofs.lemmas.List.Elements.{All-append, All-cons, All-nil}
use Rattle.wp_model.specs.Location.{is_before, side_before}
use Rattle.wp_model.specs.Name.{is_name}
use Rattle.wp_model.specs.Opening.{IsStockRow, Stock}
use Rattle.wp_model.specs.Step.{is_among, same_location, same_side}
use Rattle.wp_model.specs.TableLines.{MayJoin, add_line, join, lies_at, number_among, put_row, row_of}
use Rattle.wp_model.specs.Tables.{AreRising, IsReadStock, places_of}
use Rattle.wp_model.specs.Limits.{most_places}
use Rattle.wp_model.specs.declared.line.StockLine.{StockLine}
use Rattle.wp_model.specs.declared.location.Location.{Location}
use Rattle.wp_model.specs.declared.location.Side.{Side}
use Rattle.wp_model.specs.declared.location.Side.TheVariants as side
use Rattle.wp_model.specs.declared.row.StockRow.{StockRow}
use Rattle.wp_model.proofs.NameEq.{number_below, number_joined}
use Rattle.wp_model.proofs.RowLists.{all_put, all_weaker, few_kept, join_new, length_put, number_new}

-- a row lies before another
abbrev pub LiesBefore : StockRow → StockRow → Type 0
LiesBefore r s = is_before r.location s.location ≡ true

-- each row lies before all that come after it
abbrev pub Rises : List StockRow → Type 0
Rises [] = Unit {0}
Rises (row ∷ rows) = AllByRecursion (LiesBefore row) rows × Rises rows

all_by_places : (P : StockRow → Type 0) (rows : List StockRow) → ((j : ℕ) (s : StockRow) → slice_get rows j ≡ Some s → P s) → AllByRecursion P rows
all_by_places P [] each = tt
all_by_places P (r ∷ rows) each = (each zero r refl, all_by_places P rows (λ j s at. each (suc j) s at))

at_place : (P : StockRow → Type 0) (rows : List StockRow) (j : ℕ) (s : StockRow) → AllByRecursion P rows → slice_get rows j ≡ Some s → P s
at_place P [] j s all at = absurd (cc at)
at_place P (r ∷ rows) zero s all at = let same : r ≡ s = cc in subst P same all.0
at_place P (r ∷ rows) (suc j) s all at = at_place P rows j s all.1 at

pub rises_from : (rows : List StockRow) → AreRising rows → Rises rows
rises_from [] rising = tt
rises_from (r ∷ rows) rising = (
  all_by_places (LiesBefore r) rows (λ j s at. rising zero (suc j) r s refl at (omega arith)),
  rises_from rows (λ i j s t at_i at_j less. rising (suc i) (suc j) s t at_i at_j (omega arith)),
)

pub rising_from : (rows : List StockRow) → Rises rows → AreRising rows
rising_from [] rises i j r s at_i at_j less = absurd (cc at_i)
rising_from (x ∷ rows) rises zero zero r s at_i at_j less = absurd (omega arith)
rising_from (x ∷ rows) rises zero (suc j) r s at_i at_j less =
    let same : x ≡ r = cc in
    subst (λ (y : StockRow). LiesBefore y s) same (at_place (LiesBefore x) rows j s rises.0 at_j)
rising_from (x ∷ rows) rises (suc i) zero r s at_i at_j less = absurd (omega arith)
rising_from (x ∷ rows) rises (suc i) (suc j) r s at_i at_j less = rising_from rows rises.1 i j r s at_i at_j (omega arith)

side_before_trans : (r s t : Side) → side_before r s ≡ true → side_before s t ≡ true → side_before r t ≡ true
side_before_trans side.L s side.R first second = refl
side_before_trans side.L side.L side.L first second = absurd (cc first)
side_before_trans side.L side.R side.L first second = absurd (cc second)
side_before_trans side.R side.L t first second = absurd (cc first)
side_before_trans side.R side.R t first second = absurd (cc first)

-- of two numbers the first, or else of two things
lex_trans : (p q r : ℕ) (u v w : Bool) → (nat_lt p q || ((p == q) && u)) ≡ true → (nat_lt q r || ((q == r) && v)) ≡ true → (u ≡ true → v ≡ true → w ≡ true)
    → (nat_lt p r || ((p == r) && w)) ≡ true
lex_trans p q r true true w first second rest = rw (rest refl refl) (grind (arith, nat_tests))
lex_trans p q r true false w first second rest = grind (arith, nat_tests)
lex_trans p q r false v w first second rest = grind (arith, nat_tests)

lex_total : (p q : ℕ) (u v same : Bool) → (nat_lt p q || ((p == q) && u)) ≡ false → ((q == p) && same) ≡ false → (u ≡ false → same ≡ false → v ≡ true)
    → (nat_lt q p || ((q == p) && v)) ≡ true
lex_total p q false v false first other rest = rw (rest refl refl) (grind (arith, nat_tests))
lex_total p q false v true first other rest = grind (arith, nat_tests)
lex_total p q true v same first other rest = grind (arith, nat_tests)

regroup : (p q r : Bool) → (p && q && r) ≡ false → (p && (q && r)) ≡ false
regroup true q r e = e
regroup false q r e = refl

side_total : (r s : Side) → side_before r s ≡ false → same_side s r ≡ false → side_before s r ≡ true
side_total side.L side.L first other = absurd (cc other)
side_total side.L side.R first other = absurd (cc first)
side_total side.R side.L first other = refl
side_total side.R side.R first other = absurd (cc other)

-- what is before what is before a location is before it
pub before_trans : (a b c : Location) → is_before a b ≡ true → is_before b c ≡ true → is_before a c ≡ true
before_trans a b c first second =
    lex_trans a.aisle b.aisle c.aisle _ _ _ first second
    (λ first_slot second_slot. lex_trans a.slot b.slot c.slot _ _ _ first_slot second_slot (side_before_trans a.side b.side c.side))

-- of two locations one is before the other, where they aren't the same
pub one_before : (a b : Location) → is_before a b ≡ false → same_location b a ≡ false → is_before b a ≡ true
one_before a b not_before other =
    lex_total a.aisle b.aisle _ _ _ not_before (regroup (b.aisle == a.aisle) (b.slot == a.slot) (same_side b.side a.side) other)
    (λ first_slot other_slot. lex_total a.slot b.slot _ _ _ first_slot other_slot (side_total a.side b.side))

rises_if : (b : Bool) (row r : StockRow) (rows : List StockRow) → is_before row.location r.location ≡ b → same_location r.location row.location ≡ false
    → Rises (r ∷ rows) → Rises (put_row row rows)
    → Rises (if b then row ∷ r ∷ rows else r ∷ put_row row rows)
rises_if true row r rows is other rises put =
    ((is, all_weaker (LiesBefore r) (LiesBefore row) (λ s before. before_trans row.location r.location s.location is before) rows rises.0), rises)
rises_if false row r rows is other rises put = (all_put (LiesBefore r) row rows (one_before row.location r.location is other) rises.0, put)

neither : (p q : Bool) → (p || q) ≡ false → (p ≡ false) × (q ≡ false)
neither false q e = (refl, e)
neither true q e = absurd (cc e)

-- a row at a new location goes to its place
pub rises_put : (row : StockRow) (rows : List StockRow) → list_any (lies_at row.location) rows ≡ false → Rises rows → Rises (put_row row rows)
rises_put row [] new rises = (tt, tt)
rises_put row (r ∷ rows) new rises =
    let parts = neither (same_location r.location row.location) (list_any (lies_at row.location) rows) new in
    rises_if (is_before row.location r.location) row r rows refl parts.0 rises (rises_put row rows parts.1 rises.1)

places_if : (b : Bool) (row r : StockRow) (rows : List StockRow) (article : ℕ)
    → places_of (put_row row rows) article ≡ (if row.article == article then 1 else 0) + places_of rows article
    → places_of (if b then row ∷ r ∷ rows else r ∷ put_row row rows) article ≡ (if row.article == article then 1 else 0) + places_of (r ∷ rows) article
places_if true row r rows article rest = refl
places_if false row r rows article rest = omega (arith, rest)

-- one more row of its article
pub places_put : (row : StockRow) (rows : List StockRow) (article : ℕ)
    → places_of (put_row row rows) article ≡ (if row.article == article then 1 else 0) + places_of rows article
places_put row [] article = refl
places_put row (r ∷ rows) article = places_if (is_before row.location r.location) row r rows article (places_put row rows article)

some_or_none : (b : Bool) (n m : ℕ) → n ≡ m → (b ≡ true → m < most_places) → m ≤ most_places → (if b then 1 else 0) + n ≤ most_places
some_or_none true n m same room most = omega (arith, room refl)
some_or_none false n m same room most = omega arith

number_length : (b : Bool) (names : List (List ℕ)) (name : List ℕ) → nat_lt (number_among names name) (length names) ≡ b → is_among names name ≡ b
    → (number_among names name < length (join names name)) × (length names ≤ length (join names name))
number_length true names name below among = rw among (grind (arith, nat_tests), omega arith)
number_length false names name below among =
    let number = number_new names name among in
    let joined = ap length (join_new names name among) ∙ length-append names (name ∷ []) in
    (omega arith, omega arith)

joined_named : (b : Bool) (names : List (List ℕ)) (name : List ℕ) → IsTrue (is_name name) → All (λ n. IsTrue (is_name n)) names
    → All (λ n. IsTrue (is_name n)) (if b then names else names ++ name ∷ [])
joined_named true names name is all = all
joined_named false names name is all =
    All-append (λ (n : List ℕ). IsTrue (is_name n)) names (name ∷ []) all
    (All-cons (λ (n : List ℕ). IsTrue (is_name n)) name [] is (All-nil (λ (n : List ℕ). IsTrue (is_name n))))

-- a line that may join leaves such a stock
pub kept_by_line : (stock : Stock) (line : StockLine) → IsReadStock stock → MayJoin stock line → IsReadStock (add_line stock line)
kept_by_line stock line read may =
    let names = stock.articles in
    let joined = join names line.article in
    let row = row_of joined line in
    let number = number_length (is_among names line.article) names line.article (number_below line.article names) refl in
    let same = number_joined line.article names in
    let here : IsStockRow joined row = record { article = omega arith; on_hand = may.on_hand } in
    let others = all_weaker (IsStockRow names) (IsStockRow joined) (λ r is. record { article = omega (arith, is.article); on_hand = is.on_hand }) stock.rows
    (recursion_from_All (IsStockRow names) stock.rows read.rows) in
    record {
      rows = All-from_recursion (IsStockRow joined) (put_row row stock.rows) (all_put (IsStockRow joined) row stock.rows here others);
      most = omega (arith, length_put row stock.rows, may.room);
      few = few_kept stock line read.few;
      rise = rising_from (put_row row stock.rows) (rises_put row stock.rows may.free (rises_from stock.rows read.rise));
      places = λ article. rw (places_put row stock.rows article)
          (some_or_none (row.article == article) (places_of stock.rows article) (places_of stock.rows article) refl
          (λ e. subst (λ (a : ℕ). places_of stock.rows a < most_places) (sym same ∙ eqb-true row.article article e) may.places) (read.places article));
      named = joined_named (is_among names line.article) names line.article may.named read.named;
    }
