use Rattle.std.proofs.Common.{◌≡◌, None, take}
use Rattle.std.specs.List.{find}
use Rattle.serde_json.specs.View.{view}
use Rattle.wp_layout.specs.LayoutFile.{is_missing}
use Rattle.wp_layout.proofs.reading.find_missing.Given as goal

abbrev pub invariant-loop-key : goal.invariant-loop-key
invariant-loop-key l = find (is_missing (view l.fn.value)) (take l.key-index l.fn.keys) ≡ None
