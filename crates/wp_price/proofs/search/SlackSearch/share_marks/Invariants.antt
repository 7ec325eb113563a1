use Rattle.wp_price.specs.ItemMarks.{AreShareMarks}
use Rattle.wp_price.proofs.search.SlackSearch.share_marks.Given as goal

abbrev pub invariant-loop-order : goal.invariant-loop-order
invariant-loop-order l = AreShareMarks l.self l.share l.order l.of_order.items
