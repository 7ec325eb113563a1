use Rattle.std.proofs.Common.{◌≡◌, Some, take}
use Rattle.serde_json.specs.Find.{as_array}
use Rattle.serde_json.specs.View.{items_view, view}
use Rattle.wp_cert.specs.Text.{orders_from}
use Rattle.wp_cert.proofs.TextBatches.{IsReadUpTo}
use Rattle.wp_cert.proofs.text.node.BatchCertificatePart.read.Given as goal

abbrev pub invariant-loop-item : goal.invariant-loop-item
invariant-loop-item l =
    (as_array (view l.fn.value) ≡ Some (items_view l.item-items))
    × (orders_from 0 (items_view (take l.item-index l.item-items)) ≡ Some l.batch)
    × IsReadUpTo l.batch l.least
