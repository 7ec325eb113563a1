use Rattle.std.proofs.Common.{◌≡◌, ℕ, List, drop, length}
use Rattle.wp_cert.specs.Terms.{Terms}
use Rattle.wp_cert.specs.declared.tree.Node.{Node}
use Rattle.wp_cert.specs.Paths.{pairing_of}
use Rattle.wp_cert.specs.Trees.{IsRight}
use Rattle.wp_cert.specs.Ways.{IsDone, IsWay}
use Rattle.wp_cert.proofs.way.SplitWay.leave.Given as goal

abbrev pub decreases-loop-pair : goal.decreases-loop-pair
decreases-loop-pair l = length l.self.path.items

abbrev pub invariant-loop-pair : goal.invariant-loop-pair
invariant-loop-pair l = record {
  even : length l.self.path.items ≡ length l.self.notes.items;
  done : (terms : Terms) (capacity shares at next : ℕ) (nodes : List Node)
      → IsWay terms capacity nodes shares l.fn.self.path.items l.fn.self.notes.items l.fn.self.above at
      → IsRight terms (pairing_of terms.wave capacity l.fn.self.path.items) l.fn.self.above (drop at nodes) (drop next nodes) l.fn.shown
      → IsDone terms capacity nodes shares l.self.path.items l.self.notes.items next l.bound;
}
