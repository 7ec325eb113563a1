use Rattle.std.proofs.Common.{◌≡◌, true, take}
use Rattle.std.specs.List.{list_all}
use Rattle.wp_cert.specs.Text.{is_node_within}
use Rattle.wp_cert.proofs.text.ranges.are_nodes_within.Given as goal

abbrev pub invariant-loop-node : goal.invariant-loop-node
invariant-loop-node l = list_all (is_node_within l.fn.third) (take l.node-index l.fn.nodes) ≡ true
