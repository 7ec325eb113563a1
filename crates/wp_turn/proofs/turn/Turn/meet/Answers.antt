use Rattle.std.proofs.Common.{ap, sym, ◌∙◌, ◌∷◌, [], arith}
use Rattle.wp_turn.proofs.Resting.{meets_at_rest, looks_joined, met_rests}
use Rattle.wp_turn.proofs.turn.Turn.meet.Goals as goal

pub join_seat-requires : goal.join_seat-requires
join_seat-requires g c =
    let id = ap (λ t. t.id) c.self.view_is in
    let first = ap (λ p. p.id) c.a.view_is ∙ (c.requires.first.0 ∙ sym id) in
    let second = ap (λ p. p.id) c.b.view_is ∙ (c.requires.second.0 ∙ sym id) in (
      first,
      second,
      ap (λ m. m.1) c.b.invariant.still,
      omega (arith, c.self.invariant.0),
      meets_at_rest g.V.Turned.entries g.V.Turned.setting c.self.inside.table.shared.key.value.value c.self.inside.table.shared.key.callers _ _
          c.a.inside.seat.me c.b.inside.seat.me _ _ _ _ _ _ _ _ c.a.invariant c.b.invariant,
    )

pub load-seen-requires : goal.load-seen-requires
load-seen-requires g c =
    let of_it = c.join_seat.ensures.0 ∙ (ap (λ p. p.id) c.a.view_is ∙ (c.requires.first.0 ∙ sym (ap (λ t. t.id) c.self.view_is))) in
    let begun = ap (λ p. p.start) c.a.view_is ∙ (c.requires.first.1 ∙ ap (λ x. x ∷ []) (sym (ap (λ t. t.start) c.self.view_is))) in (
      of_it,
      omega (arith, c.self.invariant.0),
      looks_joined g.V.Turned.entries g.V.Turned.setting c.self.inside.table.shared.key.value.value c.self.inside.table.shared.key.callers _ _
          c.a.inside.seat.me c.b.inside.seat.me _ _ _ _ _ c.a.invariant begun c.join_seat.ensures.2,
    )

pub invariant_of-result : goal.invariant_of-result
invariant_of-result g c = met_rests g.V.Turned.entries g.V.Turned.setting _ c.a.inside.seat.me c.b.inside.seat.me _ _ _ _ _ _ _ _ _ _ _ c.a.invariant
    c.b.invariant c.join_seat.ensures.2 c.load-seen.ensures.2
