use Rattle.std.proofs.Common.{◌≡◌, map, take}
use Rattle.serde_json.specs.View.{view}
use Rattle.wp_cert.specs.TextData.{number_data}
use Rattle.wp_cert.proofs.text.printing.loads_json.Given as goal

abbrev pub invariant-loop-order : goal.invariant-loop-order
invariant-loop-order l = map view l.values.items ≡ map number_data (take l.order l.fn.cart.loads)
