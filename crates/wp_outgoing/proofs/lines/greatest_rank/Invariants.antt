use Rattle.std.proofs.Common.{◌≡◌, ℕ, take}
use Rattle.std.specs.List.{fold}
use Rattle.std.specs.Prelude.{max}
use Rattle.wp_outgoing.specs.Lines.{first_rank}
use Rattle.wp_waves.specs.declared.open_orders.OpenOrder.{OpenOrder}
use Rattle.wp_outgoing.proofs.lines.greatest_rank.Given as goal

-- the greatest of the ranks so far, and of the first
abbrev pub invariant-loop-one : goal.invariant-loop-one
invariant-loop-one l = l.greatest ≡ fold (λ (greatest : ℕ) (one : OpenOrder). max greatest one.rank) (first_rank l.orders) (take l.one-index l.orders)
