use Rattle.std.proofs.Common.{length}
use Rattle.wp_crew.proofs.Deals.{IsDealt}
use Rattle.wp_crew.proofs.deal.deal_turns.Given as goal

abbrev pub invariant-loop-turn : goal.invariant-loop-turn
invariant-loop-turn l = IsDealt l.lengths l.turns (length l.fn.loads) l.turn-index l.loads l.picker_of
