use Rattle.std.proofs.Common.{◌≡◌, map, take}
use Rattle.wp_floor.specs.Floor.{order_number}
use Rattle.wp_floor.proofs.submitting.numbers_of.Given as goal

-- the numbers of the orders so far
abbrev pub invariant-loop-order : goal.invariant-loop-order
invariant-loop-order l = l.numbers.items ≡ map (order_number l.opening) (take l.order-index l.orders)
