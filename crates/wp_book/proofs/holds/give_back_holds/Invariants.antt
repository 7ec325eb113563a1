use Rattle.std.proofs.Common.{◌≡◌, take}
use Rattle.wp_model.specs.Book.{units_at}
use Rattle.wp_model.specs.Change.{change_rows, free_held_units}
use Rattle.wp_book.proofs.holds.give_back_holds.Given as goal

abbrev pub invariant-loop-hold : goal.invariant-loop-hold
invariant-loop-hold l = l.rows ≡ change_rows (λ row. free_held_units (units_at (take l.hold-index l.holds) row)) 0 l.fn.rows
