use Rattle.std.proofs.Common.{◌≡◌, All, map, take}
use Rattle.serde_json.specs.View.{view}
use Rattle.wp_cert.specs.TextData.{IsKeptNode, node_data}
use Rattle.wp_cert.proofs.text.to_json.nodes_json.Given as goal

abbrev pub invariant-loop-node : goal.invariant-loop-node
invariant-loop-node l =
    (map view l.values.items ≡ map (node_data l.fn.third) (take l.node-index l.fn.nodes)) × All IsKeptNode (take l.node-index l.fn.nodes)
