use Rattle.std.proofs.Common.{◌≡◌, map, take, vec_len}
use Rattle.wp_waves.specs.OpenOrders.{order_of}
use Rattle.wp_sending.proofs.sending.order_names.Given as goal

-- the names so far
abbrev pub invariant-loop-one : goal.invariant-loop-one
invariant-loop-one l = record {
  names : l.names.items ≡ map order_of (take l.one-index l.orders);
  count : vec_len l.names ≡ l.one-index;
}
