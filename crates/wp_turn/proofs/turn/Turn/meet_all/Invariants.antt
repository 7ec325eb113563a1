use Rattle.std.proofs.Common.{length, All}
use Rattle.wp_turn.specs.Promises.{IsOf}
use Rattle.wp_turn.proofs.Closing.{Met}
use Rattle.wp_turn.proofs.turn.Turn.meet_all.Given as goal

abbrev pub invariant-loop-pass : goal.invariant-loop-pass
invariant-loop-pass g l = record {
  own : IsOf l.fn.self l.whole;
  rest : All (λ pass. IsOf l.fn.self pass) l.others.list;
  met : Met l.fn.whole l.whole l.fn.others.list l.others.list;
}

abbrev pub decreases-loop-pass : goal.decreases-loop-pass
decreases-loop-pass g l = length l.others.list
