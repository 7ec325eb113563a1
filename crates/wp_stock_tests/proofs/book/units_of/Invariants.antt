use Rattle.std.proofs.Common.{◌≡◌, ◌≤◌, ◌*◌, take}
use Rattle.wp_model.specs.Book.{units_at}
use Rattle.wp_stock_tests.proofs.book.units_of.Given as goal

abbrev pub invariant-loop-hold : goal.invariant-loop-hold
invariant-loop-hold l = record { units : l.units ≡ units_at (take l.hold-index l.holds) l.row; most : l.units ≤ l.hold-index * 4294967295 }
