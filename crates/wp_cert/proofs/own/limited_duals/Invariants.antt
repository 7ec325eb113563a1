use Rattle.std.proofs.Common.{◌≡◌, ◌<◌, ℕ, length}
use Rattle.std.specs.Prelude.{slice_index}
use Rattle.wp_visit.specs.Items.{AreBounded}
use Rattle.wp_cert.specs.MarkTests.{IsLimited}
use Rattle.wp_cert.proofs.own.limited_duals.Given as goal

abbrev pub invariant-loop-order : goal.invariant-loop-order
invariant-loop-order l = record {
  count : length l.limits.items ≡ l.order;
  each : (k : ℕ) → k < l.order → IsLimited (slice_index l.duals k) (slice_index l.limits.items k);
  bounded : AreBounded l.limits.items;
}
