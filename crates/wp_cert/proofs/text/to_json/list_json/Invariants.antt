use Rattle.std.proofs.Common.{◌≡◌, All, map, take}
use Rattle.serde_json.specs.View.{view}
use Rattle.wp_cert.proofs.text.to_json.list_json.Given as goal

abbrev pub invariant-loop-part : goal.invariant-loop-part
invariant-loop-part g l =
    (map view l.values.items ≡ map g.T.ToJson.shown (take l.part-index l.fn.parts)) × All g.T.ToJson.kept (take l.part-index l.fn.parts)
