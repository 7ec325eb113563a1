use Rattle.std.proofs.Common.{ℕ, ◌<◌, ◌≤◌, IfSome, slice_get}
use Rattle.wp_model.specs.Book.{units_at}
use Rattle.wp_stock_tests.proofs.book.are_free.Given as goal

abbrev pub invariant-loop-row : goal.invariant-loop-row
invariant-loop-row l = (k : ℕ) → k < l.row → IfSome (slice_get l.book.rows k) (λ r. units_at l.holds k ≤ r.free)
