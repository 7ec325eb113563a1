use Rattle.std.proofs.Common.{◌≡◌, ◌<◌, drop}
use Rattle.wp_floor.specs.Waves.{chain_count, chain_of, place_after}
use Rattle.wp_floor.proofs.waves.chain_of.Given as goal

abbrev pub invariant-loop-byte : goal.invariant-loop-byte
invariant-loop-byte l = record {
  within : l.place < chain_count;
  rest : place_after l.place (drop l.byte-index l.byte-items) ≡ chain_of l.name;
}
