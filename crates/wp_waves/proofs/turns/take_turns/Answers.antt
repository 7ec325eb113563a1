use Rattle.std.proofs.Common.{◌≡◌, ◌∙◌, ◌+◌, ◌++◌, ◌∷◌, [], sym, ap, List, drop, append_assoc}
use Rattle.wp_model.proofs.Places.{drop_at}
use Rattle.wp_waves.specs.Turns.{turns_of, units_free}
use Rattle.wp_waves.specs.declared.open_orders.OpenOrder.{OpenOrder}
use Rattle.wp_waves.specs.declared.turns.OrderTurn.{OrderTurn}
use Rattle.wp_waves.proofs.TakenTurns.{IsTurn, kept_count, turn_more}
use Rattle.wp_waves.proofs.turns.take_turns.Goals as goal

pub loop-one-preserved : goal.loop-one-preserved
loop-one-preserved c =
    let day = c.args.day.now in
    let listed = c.args.listed.now in
    let i = c.loop-one.one-index in
    let one = c.one-item.result in
    let old = c.loop-one.free in
    let new = c.serve-short.new.self in
    let short = c.serve-short.result in
    let lines = c.lines.result.now in
    let before = c.loop-one.turns.items in
    let rest = drop (i + 1) listed in
    let turn : OrderTurn = record { one = one; short = short } in
    let is : IsTurn day one.order lines old new short = record {
      lines_are = c.lines.ensures.lines;
      count = c.loop-one.invariant.count;
      short_is = c.serve-short.ensures.short;
      served = c.serve-short.ensures.served;
      same = c.serve-short.ensures.same;
    } in
    let left : drop i listed ≡ one ∷ rest = drop_at listed i one c.loop-one-test.true c.one-item.is in
    record {
      count = kept_count day one.order lines old new short is;
      turns = c.loop-one.invariant.turns
          ∙ (ap (λ (l : List OpenOrder). before ++ turns_of day (units_free old) l) left
          ∙ (ap (λ (l : List OrderTurn). before ++ l) (turn_more day one rest lines old new short is)
          ∙ (sym (append_assoc before (turn ∷ []) (turns_of day (units_free new) rest))
          ∙ ap (λ (l : List OrderTurn). l ++ turns_of day (units_free new) rest) (sym c.in_ok-push.ensures.items))));
    }
