-- What a history leaves and tells of the rows of a stock that was read.
use Rattle.std.proofs.Common.{◌≡◌, ◌<◌, ap, length, subst, sym}
use Rattle.std.specs.List.{All}
use Rattle.wp_desk.specs.GoingOn.{GoesOnFrom, new_entries}
use Rattle.wp_model.specs.History.{History, state_after}
use Rattle.wp_model.specs.Opening.{Opening}
use Rattle.wp_model.specs.State.{opening_state}
use Rattle.wp_model.specs.Tables.{IsReadOpening}
use Rattle.wp_top.proofs.RowsKept.{entries_keep_rows, opening_rows}
use Rattle.wp_top.proofs.Taken.{IsWithin, refills_within}
use Rattle.wp_top.specs.Sections.{refills_told}

-- the rows after it
pub rows_after : (history : History) → IsReadOpening history.opening
    → All (λ row. row.article < length history.opening.stock.articles) (state_after history).rows
rows_after history read =
    (entries_keep_rows history.opening history.opening.stock (opening_state history.opening) history.entries (opening_rows history.opening read.stock)).articles

-- the refills of the new entries of one that goes on from another
pub refills_after : (start history : History) → IsReadOpening history.opening → GoesOnFrom start history
    → All (IsWithin (length history.opening.stock.rows)) (refills_told start history)
refills_after start history read goes_on =
    let same : history.opening ≡ start.opening = ap (λ (h : History). h.opening) goes_on in
    let begun : IsReadOpening start.opening = subst IsReadOpening same read in
    let rows = entries_keep_rows start.opening start.opening.stock (opening_state start.opening) start.entries (opening_rows start.opening begun.stock) in
    subst (λ (o : Opening). All (IsWithin (length o.stock.rows)) (refills_told start history)) (sym same)
    (refills_within start.opening (length start.entries) (state_after start) (new_entries start history) rows)
