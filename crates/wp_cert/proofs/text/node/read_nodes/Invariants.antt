use Rattle.std.proofs.Common.{◌≡◌, Some, take}
use Rattle.serde_json.specs.Find.{as_array}
use Rattle.serde_json.specs.View.{items_view, view}
use Rattle.wp_cert.specs.Text.{each_said, node_said}
use Rattle.wp_cert.proofs.text.node.read_nodes.Given as goal

abbrev pub invariant-loop-item : goal.invariant-loop-item
invariant-loop-item l =
    (as_array (view l.fn.value) ≡ Some (items_view l.item-items))
    × (each_said (node_said l.fn.third) (items_view (take l.item-index l.item-items)) ≡ Some l.nodes.items)
