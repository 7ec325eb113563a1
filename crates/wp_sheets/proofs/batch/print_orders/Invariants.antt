use Rattle.std.proofs.Common.{◌≡◌, ◌++◌, List, ℕ}
use Rattle.std.specs.List.{flat_map}
use Rattle.wp_sheets.specs.Sheets.{order_after_space}
use Rattle.wp_sheets.proofs.OrdersAhead.{AreDividedAt}
use Rattle.wp_sheets.proofs.batch.print_orders.Given as goal

-- the batch's orders before this one were written
abbrev pub invariant-loop-order : goal.invariant-loop-order
invariant-loop-order l = (front : List ℕ) × (back : List ℕ) × AreDividedAt l.fn.batch l.order front back
    × (l.text.items ≡ l.fn.text.items ++ flat_map (order_after_space l.wave) front)
