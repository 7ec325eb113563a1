use Rattle.std.proofs.Common.{◌≡◌, ◌<◌, ◌++◌, map}
use Rattle.serde_json.specs.View.{view}
use Rattle.wp_graph.specs.PickSets.{AreSlots}
use Rattle.wp_cert.specs.TextData.{aisle_points, point_data}
use Rattle.wp_cert.proofs.text.printing.push_aisle.Given as goal

abbrev pub invariant-loop-before : goal.invariant-loop-before
invariant-loop-before l =
    (map view l.values.items ≡ map view l.fn.values.items ++ map point_data (aisle_points l.fn.picks.points l.fn.aisle l.before))
    × (0 < l.before → AreSlots l.fn.picks.layout l.fn.picks.points)
