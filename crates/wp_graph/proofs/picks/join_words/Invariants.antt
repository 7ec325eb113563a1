use Rattle.std.proofs.Common.{◌≡◌, length}
use Rattle.wp_graph.proofs.JoinedWords.{JoinedBut}
use Rattle.wp_graph.proofs.picks.join_words.Given as goal

abbrev pub invariant-loop-rest : goal.invariant-loop-rest
invariant-loop-rest l = record {
  whole : length l.words ≡ 260;
  but : JoinedBut l.rest l.words l.fn.words l.other;
}

abbrev pub decreases-loop-rest : goal.decreases-loop-rest
decreases-loop-rest l = l.rest
