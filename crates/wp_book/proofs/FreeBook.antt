-- A book of which nothing is held.
use Rattle.std.proofs.Common.{◌≡◌, ◌∙◌, refl, sym, ap, subst, ℕ, zero, suc, ◌<◌, List, length, [], map, slice_get, Some, All, replicate, arith}
use Rattle.std.proofs.lemmas.List.{get_or-replicate, length-replicate}
use Rattle.std.proofs.lemmas.List.Sums.{sum_by-cons}
use Rattle.std.proofs.lemmas.Option.{slice_get-map}
use Rattle.wp_model.proofs.Elements.{All-at, All-from_at, if_some, option_map_some}
use Rattle.wp_model.specs.Book.{Where, held_in_row, is_at, is_of}
use Rattle.wp_model.specs.Opening.{IsStockRow, Stock}
use Rattle.wp_model.specs.Sound.{IsBalanced}
use Rattle.wp_model.specs.State.{opening_row}
use Rattle.wp_model.specs.declared.row.Row.{Row}
use Rattle.wp_model.specs.declared.row.StockRow.{StockRow}
use Rattle.wp_book.specs.Chains.{all_units, chain_units, holdings_in}
use Rattle.wp_book.specs.Kept.{AreChained, book_of, chain_count}
use Rattle.wp_book.specs.declared.room.KeptHolds.{KeptHolds}
use Rattle.wp_book.proofs.Totals.{total_is}

-- empty chains hold nothing
no_holdings : (n : ℕ) → holdings_in (replicate n []) ≡ []
no_holdings zero = refl
no_holdings (suc n) = no_holdings n

no_units : (passes : Where) (n : ℕ) → all_units passes (replicate n []) ≡ 0
no_units passes zero = refl
no_units passes (suc n) = omega (arith, sum_by-cons (chain_units passes) [] (replicate n []), no_units passes n)

-- the row of a file's row
row_from : (rows : List StockRow) (k : ℕ) (r : Row) → slice_get (map opening_row rows) k ≡ Some r → (s : StockRow) × (slice_get rows k ≡ Some s)
    × (opening_row s ≡ r)
row_from rows k r there = option_map_some (slice_get rows k) opening_row r (sym (slice_get-map opening_row rows k) ∙ there) (λ s found is. (s, found, is))

-- the rows of a file balance, all of them free
pub balanced : (stock : Stock) → All (IsStockRow stock.articles) stock.rows → All IsBalanced (map opening_row stock.rows)
balanced stock rows =
    All-from_at IsBalanced (map opening_row stock.rows) (λ k r there.
    let from = row_from stock.rows k r there in
    let is = All-at (IsStockRow stock.articles) stock.rows k from.0 rows from.1 in
    subst IsBalanced from.2 (record { sum = omega arith; most = is.on_hand }))

-- each row of a file is of one of the stock's articles
known : (stock : Stock) → All (IsStockRow stock.articles) stock.rows → All (λ (row : Row). row.article < length stock.articles) (map opening_row stock.rows)
known stock rows =
    All-from_at (λ (row : Row). row.article < length stock.articles) (map opening_row stock.rows) (λ k r there.
    let from = row_from stock.rows k r there in
    let is = All-at (IsStockRow stock.articles) stock.rows k from.0 rows from.1 in
    subst (λ (row : Row). row.article < length stock.articles) from.2 is.article)

-- so is each of the same rows, by the number of articles
pub known_articles : (stock : Stock) (rows : List Row) (articles : ℕ) → All (IsStockRow stock.articles) stock.rows → rows ≡ map opening_row stock.rows
    → articles ≡ length stock.articles → All (λ (row : Row). row.article < articles) rows
known_articles stock rows articles are same count =
    subst (λ (n : ℕ). All (λ (row : Row). row.article < n) rows) (sym count)
    (subst (λ (rows : List Row). All (λ (row : Row). row.article < length stock.articles) rows) (sym same) (known stock are))

-- the rows of a file, with empty chains, are a book
pub opens : (stock : Stock) → All (IsStockRow stock.articles) stock.rows → AreChained (map opening_row stock.rows) (replicate chain_count [])
opens stock rows = record {
  book = record {
    rows = balanced stock rows;
    held = λ k. if_some (slice_get (map opening_row stock.rows) k) _ (λ r there.
        let from = row_from stock.rows k r there in
        sym (ap (λ (r : Row). r.held) from.2) ∙ sym (nothing k));
    nowhere_else = λ k past. nothing k;
  };
  count = length-replicate {A = List KeptHolds} chain_count [];
  placed = λ i wave within elsewhere. ap (chain_units (is_of wave)) (get_or-replicate {A = List KeptHolds} chain_count i [] [] within);
}
  where
    nothing : (k : ℕ) → held_in_row (book_of (map opening_row stock.rows) (replicate chain_count [])) k ≡ 0
    nothing k = total_is (is_at k) (map opening_row stock.rows) (replicate chain_count []) ∙ no_units (is_at k) chain_count

-- empty chains have no holdings
pub holds_nothing : holdings_in (replicate chain_count []) ≡ []
holds_nothing = no_holdings chain_count
