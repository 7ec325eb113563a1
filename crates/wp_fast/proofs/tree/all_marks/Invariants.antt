use Rattle.std.proofs.Common.{◌≡◌, ℕ, ◌+◌, ◌<◌, ◌≤◌, true, false, length, get_or}
use Rattle.wp_fast.proofs.tree.all_marks.Given as goal

abbrev pub invariant-loop-aisle : goal.invariant-loop-aisle
invariant-loop-aisle l = record {
  whole : length l.marks ≡ 128;
  marked : (aisle : ℕ) → 1 ≤ aisle → aisle < l.aisle → get_or l.marks (63 + aisle) false ≡ true;
}
