use Rattle.std.proofs.Common.{◌<◌, ◌^◌, List, arith, ap, subst}
use Rattle.std.specs.Result.{IfOk}
use Rattle.std.specs.Prelude.{sum}
use Rattle.std.proofs.lemmas.List.Elements.{All-same}
use Rattle.std.proofs.lemmas.Result.{IfOk-weaker}
use Rattle.wp_lp.specs.Knowns.{IsBracketFrom, IsToldRoot}
use Rattle.wp_lp.specs.Parts.{cost_of}
use Rattle.wp_lp.specs.declared.part.WeightedBatch.{WeightedBatch}
use Rattle.wp_lp.proofs.Sides.{weights_small}
use Rattle.wp_lp.proofs.Within.{cover_bracket}
use Rattle.wp_lp.proofs.cover.cover_root.Goals as goal

pub told_root-requires-clause-weights : goal.told_root-requires-clause-weights
told_root-requires-clause-weights c =
    All-same (λ (part : WeightedBatch). part.weight < 2 ^ 127) _ c.args.cover.now.parts.items c.as_slice.ensures.value
    (weights_small c.args.start.now.given.wave.now c.args.start.now.given.pairs.now c.args.cover.now.parts.items _ (2 ^ 127)
    c.requires.cover.each c.requires.cover.exact c.args.start.now.given.as_many (omega (arith, c.requires.cover.small)))

pub told_root-requires-clause-cost : goal.told_root-requires-clause-cost
told_root-requires-clause-cost c =
    let same = ap cost_of c.as_slice.ensures.value in
    omega (arith, same, c.requires.cover.fits)

pub told_root-requires-clause-count : goal.told_root-requires-clause-count
told_root-requires-clause-count c = omega (arith, c.requires.sound.count, c.args.start.now.given.few)

pub returns-clause-is : goal.returns-clause-is
returns-clause-is c =
    subst (λ (parts : List WeightedBatch). IfOk c.told_root.result (IsToldRoot parts c.args.sixtieths.now c.args.cover.now.over c.args.state))
    c.as_slice.ensures.value
    c.told_root.ensures

pub returns-clause-from : goal.returns-clause-from
returns-clause-from c =
    let wave = c.args.start.now.given.wave.now in
    let pairing = c.args.start.now.given.pairs.now in
    let cost = c.args.start.now.cost in
    let told = subst (λ (parts : List WeightedBatch). IfOk c.told_root.result (IsToldRoot parts c.args.sixtieths.now c.args.cover.now.over c.args.state))
    c.as_slice.ensures.value c.told_root.ensures in
    IfOk-weaker c.told_root.result (IsToldRoot c.args.cover.now.parts.items c.args.sixtieths.now c.args.cover.now.over c.args.state)
    (IsBracketFrom wave pairing cost (sum c.args.sixtieths.now) c.args.state)
    (λ root is. cover_bracket wave pairing cost c.args.cover.now.parts.items c.args.sixtieths.now c.args.cover.now.over c.args.state root is c.requires.cover
    c.requires.sound c.args.start.now.given.as_many) told
