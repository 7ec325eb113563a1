use Rattle.std.proofs.Common.{◌≡◌, ◌<◌, ℕ, length}
use Rattle.wp_master.specs.Pairs.{number_at}
use Rattle.wp_master.specs.Pivots.{column_place, entry_of, last_row}
use Rattle.wp_master.proofs.run.Run.weights.Given as goal

abbrev pub invariant-loop-column : goal.invariant-loop-column
invariant-loop-column l = record {
  count : length l.weights.items ≡ l.column;
  each : (column : ℕ) → column < length l.weights.items
      → number_at l.weights.items column ≡ entry_of l.self.table (last_row l.pool) (column_place column);
}
