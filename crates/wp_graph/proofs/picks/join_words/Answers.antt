use Rattle.std.proofs.Common.{arith}
use Rattle.wp_graph.proofs.JoinedWords.{one_aisle_less}
use Rattle.wp_graph.proofs.Places.{lowest_less}
use Rattle.wp_graph.proofs.picks.join_words.Goals as goal

pub loop-rest-smaller : goal.loop-rest-smaller
loop-rest-smaller c = lowest_less c.loop-rest.rest (omega arith) (omega arith)

pub loop-rest-preserved : goal.loop-rest-preserved
loop-rest-preserved c = record {
  whole = c.join_aisle.ensures.whole;
  but = one_aisle_less (omega arith) (omega arith)
      (record { here = c.join_aisle.ensures.here; before = c.join_aisle.ensures.before; behind = c.join_aisle.ensures.behind }) c.loop-rest.invariant.but;
}
