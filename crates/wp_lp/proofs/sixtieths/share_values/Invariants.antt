use Rattle.std.proofs.Common.{◌≡◌, ◌<◌, ◌^◌, ℕ, All, length}
use Rattle.std.specs.Prelude.{slice_index}
use Rattle.wp_lengths.specs.Duals.{IsShare}
use Rattle.wp_lp.proofs.sixtieths.share_values.Given as goal

abbrev pub invariant-loop-order : goal.invariant-loop-order
invariant-loop-order l = record {
  count : length l.shares.items ≡ l.order;
  each : (place : ℕ) → place < l.order → IsShare l.wave l.capacity.most place (slice_index l.shares.items place);
  small : All (λ (dual : ℕ). dual < 2 ^ 34) l.shares.items;
}
