use Rattle.std.proofs.Common.{◌∙◌, ◌+◌, sym, ap, drop, List}
use Rattle.std.proofs.lemmas.Bool.{cond-false, cond-true}
use Rattle.std.specs.Str.{bytes_eq}
use Rattle.wp_model.proofs.Places.{drop_at}
use Rattle.wp_outgoing.specs.Leaving.{short_in}
use Rattle.wp_waves.specs.declared.turns.OrderTurn.{OrderTurn}
use Rattle.wp_outgoing.proofs.leaving.short_of.Goals as goal

pub loop-turn-preserved : goal.loop-turn-preserved
loop-turn-preserved c =
    let turns = c.args.turns.now in
    let name = c.args.order.now in
    let i = c.loop-turn.turn-index in
    let turn = c.turn-item.result in
    c.loop-turn.invariant
    ∙ (ap (λ (l : List OrderTurn). short_in l name) (drop_at turns i turn c.loop-turn-test.true c.turn-item.is)
    ∙ cond-false (bytes_eq turn.one.order name) turn.short (short_in (drop (i + 1) turns) name) (sym c.is_order.ensures ∙ c.if-is_order.false))

pub returns-then-is_order : goal.returns-then-is_order
returns-then-is_order c =
    let turns = c.args.turns.now in
    let name = c.args.order.now in
    let i = c.loop-turn.turn-index in
    let turn = c.turn-item.result in
    sym (c.loop-turn.invariant
    ∙ (ap (λ (l : List OrderTurn). short_in l name) (drop_at turns i turn c.loop-turn-test.true c.turn-item.is)
    ∙ cond-true (bytes_eq turn.one.order name) turn.short (short_in (drop (i + 1) turns) name) (sym c.is_order.ensures ∙ c.if-is_order.true)))
