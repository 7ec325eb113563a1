use Rattle.std.proofs.Common.{◌≡◌, drop}
use Rattle.wp_model.specs.Step.{place_from}
use Rattle.wp_floor.proofs.held.place_of.Given as goal

abbrev pub invariant-loop-place : goal.invariant-loop-place
invariant-loop-place l = place_from l.place (drop l.place l.wave.orders) l.claim.order ≡ place_from 0 l.wave.orders l.claim.order
