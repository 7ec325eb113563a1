use Rattle.std.proofs.Common.{◌≡◌, ◌+◌, ◌<◌, ◌≤◌, ℕ, IfSome, fold, map}
use Rattle.std.specs.Int.{bit_at}
use Rattle.wp_model.specs.Warehouse.{IsUpTo}
use Rattle.wp_graph.specs.Required.{distance}
use Rattle.wp_graph.specs.Stretches.{bit_places, reach_to}
use Rattle.wp_graph.proofs.ways.reach_word.Given as goal

abbrev pub invariant-loop-rest : goal.invariant-loop-rest
invariant-loop-rest l = record {
  value : fold reach_to l.stretch (map (distance l.layout) (bit_places l.first l.rest)) ≡ fold reach_to l.fn.before
      (map (distance l.layout) (bit_places l.first l.fn.bits));
  slots : (k : ℕ) → k < 64 → bit_at l.rest k ≡ 1 → IsUpTo l.layout.slots (l.first + k);
  last : IfSome l.stretch (λ s. s.last ≤ 2000000);
}

abbrev pub decreases-loop-rest : goal.decreases-loop-rest
decreases-loop-rest l = l.rest
