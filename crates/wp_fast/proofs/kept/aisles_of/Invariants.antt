use Rattle.std.proofs.Common.{◌≡◌, ℕ, ◌+◌, ◌-◌, ◌≤◌, false, length, get_or}
use Rattle.wp_graph.specs.PickSets.{HaveSlotIn}
use Rattle.wp_fast.proofs.kept.aisles_of.Given as goal

abbrev pub invariant-loop-aisle : goal.invariant-loop-aisle
invariant-loop-aisle l = record {
  whole : length l.marks ≡ 64;
  some : 1 ≤ l.before;
  last : l.before ≤ l.layout.aisles + 1;
  few : l.layout.aisles ≤ 64;
  unmarked : (aisle : ℕ) → l.before ≤ aisle → aisle ≤ l.layout.aisles → get_or l.marks (aisle - 1) false ≡ false → HaveSlotIn l.picks.points aisle → ⊥;
}

abbrev pub decreases-loop-aisle : goal.decreases-loop-aisle
decreases-loop-aisle l = l.before
