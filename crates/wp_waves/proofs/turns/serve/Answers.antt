use Rattle.std.proofs.Common.{All, List, subst, sym}
use Rattle.std.proofs.lemmas.List.Sorted.{All-permutation}
use Rattle.wp_waves.specs.OpenOrders.{IsOpenOrder}
use Rattle.wp_waves.specs.declared.open_orders.OpenOrder.{OpenOrder}
use Rattle.wp_waves.proofs.TakenTurns.{turns_told}
use Rattle.wp_waves.proofs.turns.serve.Goals as goal

pub take_turns-requires-clause-each : goal.take_turns-requires-clause-each
take_turns-requires-clause-each c =
    let orders = c.args.day.now.orders in
    subst (λ (l : List OpenOrder). All (IsOpenOrder orders) l) (sym c.as_slice.ensures.value)
    (All-permutation (IsOpenOrder orders) c.in_ok-waiting.waiting.items c.sort_by_rank.new.listed.items c.in_ok-sort_by_rank.ensures.same
    c.in_ok-waiting.ensures.each)

pub returns : goal.returns
returns c =
    turns_told c.args.day.now c.args.free c.args.listed.now c.in_ok-waiting.waiting.items c.sort_by_rank.new.listed.items c.as_slice.result.now
    c.args.takers.now c.take_turns.result c.as_slice.ensures.value c.in_ok-waiting.ensures.waiting c.in_ok-sort_by_rank.ensures c.take_turns.ensures
