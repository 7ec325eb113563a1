use Rattle.std.proofs.Common.{◌≡◌, true, take}
use Rattle.std.specs.List.{list_all}
use Rattle.wp_cert.specs.Text.{is_price}
use Rattle.wp_cert.proofs.text.ranges.are_within.Given as goal

abbrev pub invariant-loop-price : goal.invariant-loop-price
invariant-loop-price l = list_all is_price (take l.price-index l.fn.prices) ≡ true
