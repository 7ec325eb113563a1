use Rattle.std.proofs.Common.{◌≡◌, ℕ, ◌+◌, ◌<◌, length}
use Rattle.std.specs.Prelude.{slice_index}
use Rattle.wp_node.specs.Prices.{choose}
use Rattle.wp_node.proofs.price.next_row.Given as goal

abbrev pub invariant-loop-taken : goal.invariant-loop-taken
invariant-loop-taken l = record {
  count : length l.next ≡ 9;
  each : (taken : ℕ) → taken < l.taken → slice_index l.next taken ≡ choose (l.things + 1) taken;
}
