use Rattle.std.proofs.Common.{◌≡◌, take, true}
use Rattle.std.specs.List.{list_all}
use Rattle.serde_json.specs.View.{view}
use Rattle.serde_json.specs.declared.value.Value.{Value}
use Rattle.wp_model.specs.Limits.{greatest_length}
use Rattle.wp_layout.specs.LayoutFile.{is_ranged, whole_or_zero}
use Rattle.wp_layout.proofs.spacings.are_spacings.Given as goal

abbrev pub invariant-loop-value : goal.invariant-loop-value
invariant-loop-value l = list_all (λ (v : Value). is_ranged greatest_length (whole_or_zero (view v))) (take l.value-index l.fn.values) ≡ true
