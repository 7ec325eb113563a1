use Rattle.std.proofs.Common.{◌≡◌, length}
use Rattle.wp_book.proofs.FreeCounts.{CountsFirst}
use Rattle.wp_book.proofs.rows.count_free.Given as goal

abbrev pub invariant-loop-row : goal.invariant-loop-row
invariant-loop-row l = record {
  long : length l.free.items ≡ l.articles;
  counts : CountsFirst l.rows l.row-index l.free.items;
}
