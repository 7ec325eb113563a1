use Rattle.std.proofs.Common.{◌≡◌, ◌<◌, ℕ, length, slice_index}
use Rattle.wp_master.specs.Pivots.{column_place}
use Rattle.wp_master.proofs.run.column_places.Given as goal

abbrev pub invariant-loop-column : goal.invariant-loop-column
invariant-loop-column l = record {
  count : length l.basis.items ≡ l.column;
  each : (row : ℕ) → row < length l.basis.items → slice_index l.basis.items row ≡ column_place row;
}
