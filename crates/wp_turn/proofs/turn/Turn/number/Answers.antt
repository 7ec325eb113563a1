use Rattle.std.proofs.Common.{ap, sym, ◌∙◌, arith}
use Rattle.wp_turn.proofs.Dealing.{deals_number, deals_on}
use Rattle.wp_turn.proofs.turn.Turn.number.Goals as goal

pub fetch_add-drawn-requires : goal.fetch_add-drawn-requires
fetch_add-drawn-requires g c =
    let of_it = c.requires.own ∙ sym (ap (λ t. t.id) c.self.view_is) in (
      of_it,
      omega (arith, c.self.invariant.0),
      deals_number g.V.Turned.entries g.V.Turned.setting c.self.inside.table.shared.key.value.value c.self.inside.table.shared.key.callers _ _
          c.args.self.now _ _ c.requires.pending.0 c.requires.deals,
    )

pub split_seat-next-requires : goal.split_seat-next-requires
split_seat-next-requires g c =
    let of_it = c.fetch_add-drawn.ensures.0 ∙ (c.requires.own ∙ sym (ap (λ t. t.id) c.self.view_is)) in (
      of_it,
      omega (arith, c.self.invariant.0),
      deals_on g.V.Turned.entries g.V.Turned.setting c.self.inside.table.shared.key.value.value c.self.inside.table.shared.key.callers
          c.self.inside.table.shared.table_id.slots _ _ c.args.self.now _ _ _ c.requires.pending.0 c.requires.deals c.fetch_add-drawn.ensures.2,
    )
