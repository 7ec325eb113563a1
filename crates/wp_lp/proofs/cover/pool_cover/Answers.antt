use Rattle.std.proofs.Common.{◌≡◌, pos, arith}
use Rattle.std.proofs.lemmas.Int.{ints}
use Rattle.wp_lp.proofs.Bounds.{cost_small}
use Rattle.wp_lp.proofs.cover.pool_cover.Goals as goal

pub trim-requires-clause-each : goal.trim-requires-clause-each
trim-requires-clause-each c = c.in_ok-enough.ensures.each c.args.start.now.given.wave.now c.args.start.now.given.pairs.now c.requires.pool.is_pool

pub cheaper_parts-requires-clause-some : goal.cheaper_parts-requires-clause-some
cheaper_parts-requires-clause-some c =
    let over : pos c.natural-over.result ≡ c.args.pair.now.denominator = omega (arith, ints, c.natural-over.ensures) in
    omega (arith, ints, over, c.requires.answer.above)

pub cheaper_parts-requires-clause-small : goal.cheaper_parts-requires-clause-small
cheaper_parts-requires-clause-small c =
    let over : pos c.natural-over.result ≡ c.args.pair.now.denominator = omega (arith, ints, c.natural-over.ensures) in
    omega (arith, ints, over, c.requires.small)

pub cheaper_parts-requires-clause-fits : goal.cheaper_parts-requires-clause-fits
cheaper_parts-requires-clause-fits c =
    let small = cost_small c.args.pool.now c.args.pair.now.weights.items c.args.pair.now.duals.items c.args.pair.now.denominator _ c.requires.answer
    c.requires.pool.short (omega (arith, c.args.start.now.given.few, c.requires.pool.is_pool.orders)) c.requires.small c.in_ok-enough.ensures.cost in
    omega (arith, small, c.in_ok-exact.ensures.cost)

pub returns-clause-over : goal.returns-clause-over
returns-clause-over c = omega (arith, ints, c.natural-over.ensures)

pub returns-clause-least : goal.returns-clause-least
returns-clause-least c = omega (arith, ints, c.in_ok-parts.ensures.no_dearer, c.in_ok-exact.ensures.cost, c.in_ok-enough.ensures.cost)
