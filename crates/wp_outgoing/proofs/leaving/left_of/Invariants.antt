use Rattle.std.proofs.Common.{◌≡◌, List, map, take}
use Rattle.wp_model.specs.State.{Wave}
use Rattle.wp_outgoing.specs.Leaving.{left_of}
use Rattle.wp_waves.specs.Standing.{taker_in}
use Rattle.wp_outgoing.proofs.leaving.left_of.Given as goal

-- those of the open orders so far that are left
abbrev pub invariant-loop-place : goal.invariant-loop-place
invariant-loop-place l =
    (taken : List Wave) → l.takers ≡ map (taker_in taken) l.listed → l.left.items ≡ left_of l.day taken l.out.turns.now l.out.waves.now (take l.place l.listed)
