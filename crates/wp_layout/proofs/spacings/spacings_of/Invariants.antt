use Rattle.std.proofs.Common.{◌≡◌, length, map, take}
use Rattle.serde_json.specs.View.{view}
use Rattle.wp_layout.specs.LayoutFile.{whole_or_zero}
use Rattle.wp_layout.proofs.spacings.spacings_of.Given as goal

abbrev pub invariant-loop-index : goal.invariant-loop-index
invariant-loop-index l = record {
  whole : length l.spacings ≡ 63;
  taken : take l.index l.spacings ≡ map whole_or_zero (map view (take l.index l.values));
}
