use Rattle.std.proofs.Common.{◌≡◌, ℕ, ◌-◌, ◌<◌, ◌≤◌, false}
use Rattle.wp_fast.specs.Trees.{AreSmall, IsComposedAt, IsKeptAt, is_marked}
use Rattle.wp_fast.proofs.tree.compose_above.Given as goal

abbrev pub invariant-loop-done : goal.invariant-loop-done
invariant-loop-done l = record {
  composed : (node : ℕ) → 64 - l.done < node → node ≤ 63 → IsComposedAt l.tree node;
  small : AreSmall l.tree;
  ahead : (node : ℕ) → node ≤ 64 - l.done → IsKeptAt l.fn.tree l.tree node;
  aisles : (node : ℕ) → 64 ≤ node → IsKeptAt l.fn.tree l.tree node;
  unmarked : (node : ℕ) → is_marked l.marks node ≡ false → IsKeptAt l.fn.tree l.tree node;
  marks : (node : ℕ) → is_marked l.marks node ≡ false → is_marked l.fn.marks node ≡ false;
}
