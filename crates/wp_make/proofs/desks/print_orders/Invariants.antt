use Rattle.std.proofs.Common.{◌≡◌, ◌-◌, ◌++◌, string_bytes}
use Rattle.std.specs.List.{flat_map, range_with_len}
use Rattle.wp_make.specs.Records.{order_name}
use Rattle.wp_make.specs.Texts.{after_comma}
use Rattle.wp_make.proofs.desks.print_orders.Given as goal

-- the orders before this one were written
abbrev pub invariant-loop-order : goal.invariant-loop-order
invariant-loop-order l = string_bytes l.text ≡ string_bytes l.fn.text
    ++ flat_map (λ order. after_comma (order_name order)) (range_with_len l.first (l.order-counter - l.first))
