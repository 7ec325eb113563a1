use Rattle.std.proofs.Common.{ap, ◌≤◌, length, arith}
use Rattle.wp_turn.proofs.Closing.{ends}
use Rattle.wp_turn.proofs.turn.Turn.take_home.Goals as goal

pub returns : goal.returns
returns g c =
    let key = c.self.inside.table.shared.key in
    let all : key.callers ≤ length c.args.whole.callers = omega (arith, c.self.invariant.2, ap (λ t. t.made) c.self.view_is, c.requires.all) in
    ends g.V.Turned.entries g.V.Turned.setting key.value.value c.args.self.start key.callers _ _ _ c.whole.inside.seat.me _ _ _ _ c.args.whole
    c.take-value.result (ap (λ t. t.start) c.self.view_is) c.whole.invariant
    (ap (λ p. p.calls) c.whole.view_is) (ap (λ p. p.callers) c.whole.view_is) all c.close_with-closed.ensures.values.2 c.take-value.ensures.value
