use Rattle.std.proofs.Common.{◌≡◌, ◌++◌, drop}
use Rattle.wp_model.specs.History.{state_after}
use Rattle.wp_waves.specs.OpenFile.{open_without}
use Rattle.wp_sending.proofs.untaken.untaken_orders.Given as goal

-- the open orders so far, and those of the orders that are left, are all
abbrev pub invariant-loop-number : goal.invariant-loop-number
invariant-loop-number l =
    open_without (state_after l.machine).waves l.opening.orders
    ≡ l.listed.items ++ open_without (state_after l.machine).waves (drop l.number l.opening.orders)
