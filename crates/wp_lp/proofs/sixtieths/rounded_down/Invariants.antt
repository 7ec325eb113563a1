use Rattle.std.proofs.Common.{◌≡◌, ◌<◌, ◌^◌, ℕ, All, length}
use Rattle.std.specs.Prelude.{slice_index}
use Rattle.wp_master.specs.Pairs.{number_at}
use Rattle.wp_lp.specs.Runs.{IsSixtieths}
use Rattle.wp_lp.proofs.sixtieths.rounded_down.Given as goal

abbrev pub invariant-loop-dual : goal.invariant-loop-dual
invariant-loop-dual l = record {
  count : length l.sixtieths.items ≡ l.dual-index;
  each : (place : ℕ) → place < l.dual-index → IsSixtieths (number_at l.duals place) l.denominator (slice_index l.sixtieths.items place);
  small : All (λ (dual : ℕ). dual < 2 ^ 34) l.sixtieths.items;
}
