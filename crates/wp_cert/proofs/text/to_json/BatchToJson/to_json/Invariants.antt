use Rattle.wp_cert.proofs.TextShown.{IsListedBelow}
use Rattle.wp_cert.proofs.text.to_json.BatchToJson.to_json.Given as goal

abbrev pub invariant-loop-order : goal.invariant-loop-order
invariant-loop-order l = IsListedBelow l.fn.self l.order l.values.items
