use Rattle.std.proofs.Common.{◌∙◌, ◌-◌, ap, arith, slice_index}
use Rattle.wp_graph.specs.Offsets.{offset}
use Rattle.wp_graph.proofs.AisleOffsets.{offset_within, word_of_aisle}
use Rattle.wp_graph.proofs.offsets.Offsets.at.Goals as goal

pub returns-clause-value : goal.returns-clause-value
returns-clause-value c =
    ap (λ words. slice_index words (c.args.aisle - 1)) c.self.invariant.words_are
    ∙ word_of_aisle _ c.args.aisle (rw (← c.self.view_is) at c.requires)
    ∙ ap (λ spacings. offset spacings c.args.aisle) c.self.view_is

pub returns-clause-small : goal.returns-clause-small
returns-clause-small c =
    let within = rw (← c.self.view_is) at c.requires in
    let is = ap (λ words. slice_index words (c.args.aisle - 1)) c.self.invariant.words_are ∙ word_of_aisle _ c.args.aisle within in
    let small = offset_within _ c.args.aisle c.self.invariant.ranges within (omega (arith, c.self.invariant.count_is, c.self.invariant.few)) in
    omega (arith, is, small)
