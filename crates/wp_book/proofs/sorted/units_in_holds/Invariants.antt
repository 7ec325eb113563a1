use Rattle.std.proofs.Common.{◌≡◌, take}
use Rattle.wp_model.specs.Book.{units_for}
use Rattle.wp_book.proofs.sorted.units_in_holds.Given as goal

abbrev pub invariant-loop-hold : goal.invariant-loop-hold
invariant-loop-hold l = l.units ≡ units_for (take l.hold-index l.holds) l.order l.row
