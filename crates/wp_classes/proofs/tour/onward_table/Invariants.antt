use Rattle.std.proofs.Common.{◌≡◌, ℕ, ◌+◌, ◌-◌, ◌≤◌, length, slice_index_or}
use Rattle.wp_classes.specs.declared.lengths.OnwardLengths.{OnwardLengths}
use Rattle.wp_classes.specs.Choices.{block_of}
use Rattle.wp_classes.specs.Onward.{AreOnward}
use Rattle.wp_classes.proofs.tour.onward_table.Given as goal

abbrev pub invariant-loop-done : goal.invariant-loop-done
invariant-loop-done l = record {
  whole : length l.table ≡ 64;
  each : (aisle : ℕ) (d : OnwardLengths) → l.layout.aisles + 1 - l.done ≤ aisle → aisle ≤ l.layout.aisles →
      AreOnward (block_of l.layout l.picks.points) (l.layout.aisles - aisle) aisle (slice_index_or l.table (aisle - 1) d);
}
