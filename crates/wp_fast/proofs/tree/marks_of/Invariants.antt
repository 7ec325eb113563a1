use Rattle.std.proofs.Common.{◌≡◌, ℕ, ◌+◌, ◌<◌, ◌≤◌, false, length, get_or}
use Rattle.wp_graph.specs.PickSets.{AreSlots, HaveSlotIn}
use Rattle.wp_fast.proofs.tree.marks_of.Given as goal

abbrev pub invariant-loop-aisle : goal.invariant-loop-aisle
invariant-loop-aisle l = record {
  whole : length l.marks ≡ 128;
  slots : 1 < l.aisle → AreSlots l.layout l.picks.points;
  unmarked : (aisle : ℕ) → 1 ≤ aisle → aisle < l.aisle → get_or l.marks (63 + aisle) false ≡ false → HaveSlotIn l.picks.points aisle → ⊥;
}
