use Rattle.std.proofs.Common.{◌≡◌, ℕ, ◌<◌, ◌≤◌, false}
use Rattle.wp_fast.specs.Trees.{AreSmall, IsKeptAt, IsPastAisleAt, is_marked}
use Rattle.wp_fast.proofs.tree.put_aisles.Given as goal

abbrev pub invariant-loop-aisle : goal.invariant-loop-aisle
invariant-loop-aisle l = record {
  past : (aisle : ℕ) → 1 ≤ aisle → aisle < l.aisle → IsPastAisleAt l.layout l.picks.points l.tree aisle;
  small : AreSmall l.tree;
  inner : (node : ℕ) → node < 64 → IsKeptAt l.fn.tree l.tree node;
  unmarked : (node : ℕ) → is_marked l.marks node ≡ false → IsKeptAt l.fn.tree l.tree node;
}
