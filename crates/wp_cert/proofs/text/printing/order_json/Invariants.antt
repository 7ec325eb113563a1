use Rattle.std.proofs.Common.{◌≡◌, ◌<◌, map}
use Rattle.serde_json.specs.View.{view}
use Rattle.wp_graph.specs.PickSets.{AreSlots}
use Rattle.wp_cert.specs.TextData.{aisles_points, point_data}
use Rattle.wp_cert.proofs.text.printing.order_json.Given as goal

abbrev pub invariant-loop-before : goal.invariant-loop-before
invariant-loop-before l =
    (map view l.values.items ≡ map point_data (aisles_points l.fn.layout l.fn.picks.points l.before))
    × (0 < l.before → AreSlots l.fn.picks.layout l.fn.picks.points)
