use Rattle.std.proofs.Common.{◌≡◌, map, take}
use Rattle.wp_dispatch.proofs.takers.takers_of.Given as goal
use Rattle.wp_model.specs.History.{state_after}
use Rattle.wp_waves.specs.Standing.{taker_in}

-- the takers of the open orders so far
abbrev pub invariant-loop-one : goal.invariant-loop-one
invariant-loop-one l = l.takers.items ≡ map (taker_in (state_after l.machine).waves) (take l.one-index l.listed)
