use Rattle.std.proofs.Common.{◌≡◌, ◌∙◌, ◌+◌, ◌++◌, ◌∷◌, [], sym, ap, subst, List, take, add-one, arith}
use Rattle.std.proofs.Math.Seq.{take-suc}
use Rattle.std.proofs.lemmas.List.{take_all}
use Rattle.std.specs.List.Sorted.{IsNonDecreasingBy}
use Rattle.wp_waves.specs.Turns.{rank_of, served_after, served_in}
use Rattle.wp_waves.specs.declared.open_orders.OpenOrder.{OpenOrder}
use Rattle.wp_waves.specs.declared.turns.OrderTurn.{OrderTurn}
use Rattle.wp_waves.proofs.ServedOrders.{served_more, served_rises}
use Rattle.wp_waves.proofs.turns.served.Goals as goal

pub loop-turn-preserved : goal.loop-turn-preserved
loop-turn-preserved c =
    let turns = c.args.turns.now in
    let i = c.loop-turn.turn-index in
    let turn = c.turn-item.result in
    let more : take (i + 1) turns ≡ take i turns ++ turn ∷ [] =
    rw add-one (take-suc turns i turn c.loop-turn-test.true ∙ ap (λ (t : OrderTurn). take i turns ++ t ∷ []) (sym c.turn-item.is)) in
    c.in_ok-add_served.ensures
    ∙ (ap (served_after turn.short turn.one) c.loop-turn.invariant ∙ (served_more (take i turns) turn ∙ ap served_in (sym more)))

pub returns-clause-served : goal.returns-clause-served
returns-clause-served c = c.loop-turn.invariant ∙ ap served_in (take_all c.loop-turn.turn-index c.args.turns.now (omega arith))

pub returns-clause-ranks : goal.returns-clause-ranks
returns-clause-ranks c = λ rising.
    subst (λ (l : List OpenOrder). IsNonDecreasingBy rank_of l)
    (sym (c.loop-turn.invariant ∙ ap served_in (take_all c.loop-turn.turn-index c.args.turns.now (omega arith))))
    (served_rises c.args.turns.now rising)
