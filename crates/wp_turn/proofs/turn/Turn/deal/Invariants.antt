use Rattle.std.proofs.Common.{◌≡◌, ◌-◌, vec_len, vec_capacity}
use Rattle.wp_turn.specs.Promises.{new_passes}
use Rattle.wp_turn.specs.Dealt.{Deals}
use Rattle.wp_turn.proofs.turn.Turn.deal.Given as goal

abbrev pub invariant-loop : goal.invariant-loop
invariant-loop g l = record {
  own : l.seat.table_id ≡ l.self.id;
  deals : Deals l.self (l.self.made - l.counter) l.seat.me;
  list : l.list.items ≡ new_passes l.self l.counter;
  len : vec_len l.list ≡ l.counter;
  room : vec_capacity l.list ≡ vec_capacity l.fn.list;
}
