use Rattle.std.proofs.Common.{◌≡◌, ◌++◌, take}
use Rattle.std.specs.List.{flat_map}
use Rattle.wp_outgoing.specs.Lines.{order_after_comma}
use Rattle.wp_outgoing.proofs.lines.append_orders.Given as goal

-- the orders so far were written
abbrev pub invariant-loop-one : goal.invariant-loop-one
invariant-loop-one l = l.text.items ≡ l.fn.text.items ++ flat_map order_after_comma (take l.one-index l.orders)
