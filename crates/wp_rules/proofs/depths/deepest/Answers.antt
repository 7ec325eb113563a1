use Rattle.std.proofs.Common.{◌≡◌, ◌∙◌, ◌+◌, ◌-◌, ap, arith, sym}
use Rattle.wp_rules.specs.Rules.{deepest_where, is_picked}
use Rattle.wp_rules.proofs.OffGaps.{deepest-zero, deepest_shallower, deepest_there}
use Rattle.wp_rules.proofs.depths.deepest.Goals as goal

pub returns-then-is_picked-clause-value : goal.returns-then-is_picked-clause-value
returns-then-is_picked-clause-value c =
    let test = is_picked c.args.layout.now c.args.picks.now.points c.args.aisle in
    let slots = c.args.layout.now.slots in
    let deeper = c.loop-deeper.deeper in
    let here : c.slots.result - deeper ≡ slots - deeper = omega (arith, c.slots.ensures.value) in
    here ∙ sym (c.loop-deeper.invariant ∙ deepest_there test (slots - deeper) (slots - (deeper + 1))
    (omega (arith, c.loop-deeper-test.true, c.slots-deeper-end.ensures.value)) (sym (ap test here) ∙ sym c.is_picked.ensures ∙ c.if-is_picked.true))

pub loop-deeper-preserved : goal.loop-deeper-preserved
loop-deeper-preserved c =
    let test = is_picked c.args.layout.now c.args.picks.now.points c.args.aisle in
    let slots = c.args.layout.now.slots in
    let deeper = c.loop-deeper.deeper in
    let here : c.slots.result - deeper ≡ slots - deeper = omega (arith, c.slots.ensures.value) in
    c.loop-deeper.invariant ∙ deepest_shallower test (slots - deeper) (slots - (deeper + 1))
    (omega (arith, c.loop-deeper-test.true, c.slots-deeper-end.ensures.value)) (sym (ap test here) ∙ sym c.is_picked.ensures ∙ c.if-is_picked.false)

pub returns-clause-value : goal.returns-clause-value
returns-clause-value c =
    let test = is_picked c.args.layout.now c.args.picks.now.points c.args.aisle in
    let none : c.args.layout.now.slots - c.loop-deeper.deeper ≡ 0 = omega (arith, c.loop-deeper-test.false, c.slots-deeper-end.ensures.value) in
    sym (c.loop-deeper.invariant ∙ ap (deepest_where test) none ∙ deepest-zero test)
