use Rattle.std.proofs.Common.{◌≡◌, ◌<◌, ◌^◌, ℕ, All, length}
use Rattle.std.specs.Prelude.{slice_index}
use Rattle.wp_lp.specs.Knowns.{IsCoveringPool, IsScaled}
use Rattle.wp_lp.proofs.wide.widened_all.Given as goal

abbrev pub invariant-loop-order : goal.invariant-loop-order
invariant-loop-order g l = record {
  pool : IsCoveringPool l.given.wave.now l.given.pairs.now l.pool;
  count : length l.duals.items ≡ l.order;
  each : (place : ℕ) → place < l.order → IsScaled l.given.wave.now l.given.pairs.now l.sixtieths.items place (slice_index l.duals.items place);
  small : All (λ dual. dual < 2 ^ 34) l.duals.items;
}
