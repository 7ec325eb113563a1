use Rattle.std.proofs.Common.{◌∙◌, sym, ap, slice_get, arith}
use Rattle.wp_floor.proofs.WaveChains.{chain_is_there, nobody_named, value_at}
use Rattle.wp_floor.proofs.waves.Waves.find.Goals as goal

pub returns-in-Some-clause-some : goal.returns-in-Some-clause-some
returns-in-Some-clause-some c =
    let waves = c.args.self.now in
    let chain = c.index.result.now in
    let there = ap (slice_get waves.chains.items) (sym c.chain_of.ensures.place)
    ∙ value_at waves.chains.items c.chain_of.result _ chain (omega (arith, c.requires.chains, c.chain_of.ensures.within)) c.index.ensures in
    let parts = c.in-Some.ensures.some in
    let found = c.in-Some.found.now in
    (c.in-Some.ensures.named, chain_is_there waves c.args.name.now chain parts.0 parts.1.0 found c.requires there parts.1.1)

pub returns-in-None-clause-none : goal.returns-in-None-clause-none
returns-in-None-clause-none c =
    let waves = c.args.self.now in
    let chain = c.index.result.now in
    let there = ap (slice_get waves.chains.items) (sym c.chain_of.ensures.place)
    ∙ value_at waves.chains.items c.chain_of.result _ chain (omega (arith, c.requires.chains, c.chain_of.ensures.within)) c.index.ensures in
    nobody_named waves c.args.name.now chain c.requires there c.in-None.ensures.none
