use Rattle.std.proofs.Common.{◌≡◌, All, List, map, take}
use Rattle.wp_model.specs.State.{Wave}
use Rattle.wp_waves.specs.OpenOrders.{IsOpenOrder}
use Rattle.wp_waves.specs.Standing.{taker_in, waiting_of}
use Rattle.wp_waves.proofs.standings.waiting.Given as goal

-- those of the open orders so far that wait
abbrev pub invariant-loop-place : goal.invariant-loop-place
invariant-loop-place l = record {
  each : All (IsOpenOrder l.day.orders) l.waiting.items;
  are : (waves : List Wave) → l.takers ≡ map (taker_in waves) l.listed → l.waiting.items ≡ waiting_of l.day waves (take l.place l.listed);
}
