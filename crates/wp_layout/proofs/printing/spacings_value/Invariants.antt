use Rattle.std.proofs.Common.{◌≡◌, ◌-◌, map, take}
use Rattle.serde_json.specs.View.{view}
use Rattle.wp_layout.specs.LayoutText.{number_value}
use Rattle.wp_layout.proofs.printing.spacings_value.Given as goal

abbrev pub invariant-loop-left : goal.invariant-loop-left
invariant-loop-left l = map view l.values.items ≡ map number_value (take (l.left - 1) l.layout.spacings)
