use Rattle.std.proofs.Common.{◌≡◌, take}
use Rattle.wp_model.specs.Book.{units_at}
use Rattle.wp_model.specs.Change.{change_rows, hold_units}
use Rattle.wp_book.proofs.holds.hold_in_rows.Given as goal

abbrev pub invariant-loop-hold : goal.invariant-loop-hold
invariant-loop-hold l = l.rows ≡ change_rows (λ row. hold_units (units_at (take l.hold-index l.holds) row)) 0 l.fn.rows
