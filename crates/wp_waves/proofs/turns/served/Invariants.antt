use Rattle.std.proofs.Common.{◌≡◌, take}
use Rattle.wp_waves.specs.Turns.{served_in}
use Rattle.wp_waves.proofs.turns.served.Given as goal

-- the orders of the turns so far that are served
abbrev pub invariant-loop-turn : goal.invariant-loop-turn
invariant-loop-turn l = l.served.items ≡ served_in (take l.turn-index l.turns)
