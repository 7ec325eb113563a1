use Rattle.std.proofs.Common.{◌≡◌, ◌*◌, ◌<◌, ◌≤◌, ℕ, length, slice_index, bit_or}
use Rattle.wp_graph.proofs.picks.join_aisle.Given as goal

abbrev pub invariant-loop-at : goal.invariant-loop-at
invariant-loop-at l = record {
  whole : length l.words ≡ 260;
  here : (at : ℕ) → 4 * l.aisle ≤ at → at < l.at → slice_index l.words at ≡ bit_or (slice_index l.fn.words at) (slice_index l.other at);
  before : (at : ℕ) → at < 4 * l.aisle → slice_index l.words at ≡ slice_index l.fn.words at;
  behind : (at : ℕ) → l.at ≤ at → slice_index l.words at ≡ slice_index l.fn.words at;
}
