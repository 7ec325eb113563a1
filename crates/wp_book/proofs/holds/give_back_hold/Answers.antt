use Rattle.std.proofs.Common.{sym, arith}
use Rattle.wp_book.proofs.RowChanges.{change_none}
use Rattle.wp_book.proofs.HoldSums.{none_freed}
use Rattle.wp_book.proofs.holds.give_back_hold.Goals as goal

pub returns-else-hold-gt0 : goal.returns-else-hold-gt0
returns-else-hold-gt0 c = sym (change_none _ c.args.rows.now (λ k r. none_freed c.args.hold.now.row k c.args.hold.now.quantity r (omega arith)))
