use Rattle.std.proofs.Common.{◌≡◌, ◌<◌, ◌≤◌, ℕ, Contains, length}
use Rattle.wp_price.specs.Shares.{IsDealt}
use Rattle.wp_price.proofs.share.deal.Given as goal

abbrev pub invariant-loop-order : goal.invariant-loop-order
invariant-loop-order l = record {
  count : length l.shares.items ≡ l.workers;
  few : l.dealt ≤ l.order;
  dealt : (order : ℕ) → order < l.order → Contains l.firsts order → IsDealt l.shares.items order;
}
