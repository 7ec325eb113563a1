use Rattle.std.proofs.Common.{◌≡◌, true, take}
use Rattle.std.specs.List.{list_all}
use Rattle.wp_cert.specs.Text.{is_order_of}
use Rattle.wp_cert.proofs.text.ranges.are_orders.Given as goal

abbrev pub invariant-loop-places : goal.invariant-loop-places
invariant-loop-places l = list_all (is_order_of l.fn.layout) (take l.places-index l.fn.orders) ≡ true
