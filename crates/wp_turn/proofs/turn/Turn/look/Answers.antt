use Rattle.std.proofs.Common.{ap, sym, ◌∙◌, ◌∷◌, [], arith}
use Rattle.wp_turn.proofs.Resting.{looks_at_rest}
use Rattle.wp_turn.proofs.turn.Turn.look.Goals as goal

pub load-seen-requires : goal.load-seen-requires
load-seen-requires g c =
    let of_it = ap (λ p. p.id) c.pass.view_is ∙ (c.requires.own.0 ∙ sym (ap (λ t. t.id) c.self.view_is)) in
    let begun = ap (λ p. p.start) c.pass.view_is ∙ (c.requires.own.1 ∙ ap (λ x. x ∷ []) (sym (ap (λ t. t.start) c.self.view_is))) in (
      of_it,
      omega (arith, c.self.invariant.0),
      looks_at_rest g.V.Turned.entries g.V.Turned.setting c.self.inside.table.shared.key.value.value c.self.inside.table.shared.key.callers _ _ _ _ _ _ _
          c.pass.invariant begun,
    )
