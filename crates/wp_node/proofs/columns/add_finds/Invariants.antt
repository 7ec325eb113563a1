use Rattle.std.proofs.Common.{◌≡◌, false}
use Rattle.wp_node.proofs.columns.add_finds.Given as goal

abbrev pub invariant-loop-place : goal.invariant-loop-place
invariant-loop-place l = l.added ≡ false → l.columns.items ≡ l.initial.columns.items
