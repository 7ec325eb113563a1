use Rattle.std.proofs.Common.{◌≡◌, ◌++◌, length}
use Rattle.wp_search.specs.Branches.{nodes_of, stacked_nodes}
use Rattle.wp_search.proofs.listing.list_nodes.Given as goal

abbrev pub invariant-loop-top : goal.invariant-loop-top
invariant-loop-top l = l.nodes.items ++ stacked_nodes l.left.items ≡ l.fn.nodes.items ++ nodes_of l.fn.branch

abbrev pub decreases-loop-top : goal.decreases-loop-top
decreases-loop-top l = length (stacked_nodes l.left.items)
