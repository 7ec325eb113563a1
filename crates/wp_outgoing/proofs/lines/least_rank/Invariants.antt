use Rattle.std.proofs.Common.{◌≡◌, ℕ, take}
use Rattle.std.specs.List.{fold}
use Rattle.std.specs.Prelude.{min}
use Rattle.wp_outgoing.specs.Lines.{first_rank}
use Rattle.wp_waves.specs.declared.open_orders.OpenOrder.{OpenOrder}
use Rattle.wp_outgoing.proofs.lines.least_rank.Given as goal

-- the least of the ranks so far, and of the first
abbrev pub invariant-loop-one : goal.invariant-loop-one
invariant-loop-one l = l.least ≡ fold (λ (least : ℕ) (one : OpenOrder). min least one.rank) (first_rank l.orders) (take l.one-index l.orders)
