use Rattle.std.proofs.Common.{◌∙◌, refl, sym, ap, List, slice_get, Some, arith}
use Rattle.wp_floor.specs.declared.waves.NumberedWave.{NumberedWave}
use Rattle.wp_floor.proofs.WaveChains.{nobody_named, value_at}
use Rattle.wp_floor.proofs.waves.Waves.take_out.Goals as goal

pub returns-in-Some-clause-some : goal.returns-in-Some-clause-some
returns-in-Some-clause-some c =
    let old = c.args.self.now in
    let there = value_at old.chains.items c.chain_of-place.result _ c.index_mut-chain.result.now
    (omega (arith, c.requires.chains, c.chain_of-place.ensures.within)) c.index_mut-chain.ensures.value in
    record {
      place = c.chain_of-place.ensures.place;
      named = c.in-Some.ensures.named;
      before = c.take_off.new.chain;
      was = there ∙ ap Some c.in-Some.ensures.some;
      is = refl {A = List (List NumberedWave)};
      count = refl;
    }

pub returns-in-None-clause-nobody : goal.returns-in-None-clause-nobody
returns-in-None-clause-nobody c =
    let old = c.args.self.now in
    let chain = c.index_mut-chain.result.now in
    let there = ap (slice_get old.chains.items) (sym c.chain_of-place.ensures.place)
    ∙ value_at old.chains.items c.chain_of-place.result _ chain (omega (arith, c.requires.chains, c.chain_of-place.ensures.within))
    c.index_mut-chain.ensures.value in
    nobody_named old c.args.name.now chain c.requires there c.in-None.ensures.nobody
