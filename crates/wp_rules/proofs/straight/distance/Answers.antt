use Rattle.std.proofs.Common.{◌≡◌, ◌+◌, ap, arith, sym, ◌∙◌}
use Rattle.wp_graph.specs.Required.{distance}
use Rattle.wp_graph.proofs.Distances.{aisle_length_is, distance_is}
use Rattle.wp_rules.proofs.straight.distance.Goals as goal

pub returns-then-place-slots-clause-value : goal.returns-then-place-slots-clause-value
returns-then-place-slots-clause-value c =
    rw (c.from-clearance.ensures, c.from.ensures, c.from-pitch.ensures, c.clearance.ensures.value, c.pitch.ensures.value)
    (sym (distance_is c.args.layout.now c.args.place (omega arith, omega (arith, c.slots.ensures.value))))

pub returns-clause-value : goal.returns-clause-value
returns-clause-value c =
    let end : c.args.place ≡ c.args.layout.now.slots + 1 = omega (arith, c.requires, c.slots.ensures.value) in
    rw (c.from-clearance.ensures, c.from-2.ensures, c.from-pitch.ensures, c.clearance.ensures.value, c.pitch.ensures.value, c.slots-2.ensures.value)
    (sym (ap (λ s. distance c.args.layout.now s) end ∙ aisle_length_is c.args.layout.now c.slots.ensures.valid.slots.0))
