use Rattle.std.proofs.Common.{◌≡◌, ◌∙◌, refl, sym, ap, ap₂, ◌+◌, ◌∷◌, [], ◌++◌, slice_get, slice_set, arith}
use Rattle.std.specs.Vec.{with_item}
use Rattle.wp_floor.specs.Waves.{AreWaves, waves_of}
use Rattle.wp_floor.specs.declared.waves.Waves.{Waves}
use Rattle.wp_floor.proofs.WaveChains.{pushed, value_at}
use Rattle.wp_floor.proofs.waves.Waves.push.Goals as goal

-- the waves with the new one in its chain
abbrev after : goal.After-self-2-1 → Waves
after c = record { chains = with_item c.args.self.now.chains c.chain_of.result c.push.new.self; count = c.args.self.now.count + 1 }

done : (c : goal.After-self-2-1) → AreWaves (after c) × (waves_of (after c) ≡ waves_of c.args.self.now ++ c.args.wave ∷ [])
done c =
    let old = c.args.self.now in
    let place = c.chain_of.ensures.place in
    let chain = c.index_mut-chain.result.now in
    let there = value_at old.chains.items c.chain_of.result _ chain (omega (arith, c.requires.waves.chains, c.chain_of.ensures.within))
    c.index_mut-chain.ensures.value in
    pushed old (after c) c.args.wave chain c.requires.waves (ap (slice_get old.chains.items) (sym place) ∙ there)
    (ap₂ (slice_set old.chains.items) place c.push.ensures) refl

pub returns-clause-waves : goal.returns-clause-waves
returns-clause-waves c = (done c).0

pub returns-clause-pushed : goal.returns-clause-pushed
returns-clause-pushed c = (done c).1
