use Rattle.std.proofs.Common.{◌≡◌, drop}
use Rattle.wp_outgoing.specs.Leaving.{short_in}
use Rattle.wp_outgoing.proofs.leaving.short_of.Given as goal

-- none of the turns so far is that of the order
abbrev pub invariant-loop-turn : goal.invariant-loop-turn
invariant-loop-turn l = short_in l.turns l.order ≡ short_in (drop l.turn-index l.turns) l.order
