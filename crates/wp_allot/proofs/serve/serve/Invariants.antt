use Rattle.std.proofs.Common.{◌+◌, ◌-◌, length}
use Rattle.wp_book.specs.ArticleRows.{rows_of}
use Rattle.wp_allot.proofs.ServedOrder.{IsServing}
use Rattle.wp_allot.proofs.serve.serve.Given as goal

abbrev pub invariant-loop-wanted : goal.invariant-loop-wanted
invariant-loop-wanted l = IsServing l.book.rows l.want l.except l.wanted l.fn.mark l.mark l.fn.room l.room

abbrev pub decreases-loop-wanted : goal.decreases-loop-wanted
decreases-loop-wanted l = l.wanted + (length (rows_of l.want.article l.book.rows) - l.mark.place)
