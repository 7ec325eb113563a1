use Rattle.std.proofs.Common.{◌∙◌, ◌+◌, ◌-◌, ap, arith, sym}
use Rattle.wp_model.specs.Warehouse.{back_end}
use Rattle.wp_rules.specs.declared.gap.Gap.{Gap}
use Rattle.wp_rules.specs.Rules.{is_picked, wider}
use Rattle.wp_rules.proofs.OffGaps.{widest_at_end, widest_at_pick, widest_past}
use Rattle.wp_rules.proofs.gap.+widest_from.Goals as goal

pub returns-then-depth-slots-clause-value : goal.returns-then-depth-slots-clause-value
returns-then-depth-slots-clause-value t c =
    let layout = c.args.layout.now in
    sym (widest_at_end layout (is_picked layout c.args.picks.now.points c.args.aisle) c.args.last c.args.depth (back_end layout - c.args.depth)
    (omega (arith, c.if-depth-slots.true, c.slots.ensures.value)))

pub returns-then-is_picked-clause-value : goal.returns-then-is_picked-clause-value
returns-then-is_picked-clause-value t c =
    let layout = c.args.layout.now in
    let depth = c.args.depth in
    let here : Gap = record { shallow = c.args.last; deep = depth } in
    c.wider.ensures ∙ ap (λ (gap : Gap). wider layout here gap) c.widest_from-rest.ensures.value
    ∙ sym (widest_at_pick layout (is_picked layout c.args.picks.now.points c.args.aisle) c.args.last depth (back_end layout - depth)
    (back_end layout - (depth + 1)) (omega (arith, c.if-depth-slots.false, c.slots.ensures.value)) (sym c.is_picked.ensures ∙ c.if-is_picked.true))

pub returns-clause-value : goal.returns-clause-value
returns-clause-value t c =
    let layout = c.args.layout.now in
    let depth = c.args.depth in
    c.widest_from.ensures.value
    ∙ sym (widest_past layout (is_picked layout c.args.picks.now.points c.args.aisle) c.args.last depth (back_end layout - depth)
    (back_end layout - (depth + 1)) (omega (arith, c.if-depth-slots.false, c.slots.ensures.value)) (sym c.is_picked.ensures ∙ c.if-is_picked.false))
