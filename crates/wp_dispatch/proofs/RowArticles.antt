-- The rows of a machine are of articles of the stock.
use Rattle.std.proofs.Common.{◌≡◌, ◌∙◌, sym, ap, ℕ, ◌<◌, List, [], ◌∷◌, length, map, Some, arith, option_map, slice_get}
use Rattle.std.proofs.lemmas.List.{length-map}
use Rattle.std.proofs.lemmas.Option.{same_Some, slice_get-map, slice_get_within}
use Rattle.wp_floor.proofs.SameRows.{opening_same_rows, step_keeps_rows}
use Rattle.wp_floor.specs.Floor.{AreSameRows, row_place, stock_row_place}
use Rattle.wp_model.proofs.Elements.{All-at, within_some}
use Rattle.wp_model.specs.History.{History, state_after, state_from}
use Rattle.wp_model.specs.Opening.{IsStockRow, Opening}
use Rattle.wp_model.specs.State.{State, opening_state}
use Rattle.wp_model.specs.Step.{step}
use Rattle.wp_model.specs.Tables.{IsReadOpening}
use Rattle.wp_model.specs.declared.entry.Entry.{Entry}
use Rattle.wp_model.specs.declared.location.Location.{Location}
use Rattle.wp_model.specs.declared.row.Row.{Row}

-- entries leave every row at its place and of its article
rows_stay : (opening : Opening) (state : State) (entries : List Entry) → AreSameRows opening state.rows
    → AreSameRows opening (state_from opening state entries).rows
rows_stay opening state [] same = same
rows_stay opening state (entry ∷ entries) same =
    rows_stay opening (step opening state entry.command).state entries (step_keeps_rows opening state entry.command same)

-- so do those of a history
pub rows_after : (history : History) → AreSameRows history.opening (state_after history).rows
rows_after history =
    rows_stay history.opening (opening_state history.opening) history.entries (opening_same_rows history.opening)

-- so after a history there are as many rows as its stock has
pub row_count : (history : History) → length (state_after history).rows ≡ length history.opening.stock.rows
row_count history =
    let opening = history.opening in
    let rows = (state_after history).rows in
    sym (length-map rows row_place)
    ∙ (ap length (rows_after history) ∙ length-map opening.stock.rows stock_row_place)

-- and they are of its articles
pub row_article : (history : History) (k : ℕ) (r : Row) → IsReadOpening history.opening → slice_get (state_after history).rows k ≡ Some r
    → r.article < length history.opening.stock.articles
row_article history k r is there =
    let opening = history.opening in
    let rows = (state_after history).rows in
    let same : map row_place rows ≡ map stock_row_place opening.stock.rows = rows_after history in
    let count : length rows ≡ length opening.stock.rows = row_count history in
    let was = within_some opening.stock.rows k (omega (arith, slice_get_within rows k r there, count)) in
    let places : Some (stock_row_place was.0) ≡ Some (row_place r) =
    sym (slice_get-map stock_row_place opening.stock.rows k ∙ ap (option_map stock_row_place) was.1)
    ∙ (ap (λ places. slice_get places k) (sym same) ∙ (slice_get-map row_place rows k ∙ ap (option_map row_place) there)) in
    let known : IsStockRow opening.stock.articles was.0 =
    All-at (IsStockRow opening.stock.articles) opening.stock.rows k was.0 is.stock.rows was.1 in
    let article : was.0.article ≡ r.article = ap (λ (p : Location × ℕ). p.1) (same_Some (stock_row_place was.0) (row_place r) places) in
    omega (arith, known.article, article)
