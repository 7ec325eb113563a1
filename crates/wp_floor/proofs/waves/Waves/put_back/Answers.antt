use Rattle.std.proofs.Common.{◌≡◌, ◌∙◌, refl, sym, ap, List, ◌++◌, ◌∷◌, [], reverse, slice_set}
use Rattle.std.proofs.lemmas.List.{append_assoc}
use Rattle.std.proofs.lemmas.Option.{same_Some}
use Rattle.wp_floor.specs.Waves.{numbered_of}
use Rattle.wp_floor.specs.declared.waves.NumberedWave.{NumberedWave}
use Rattle.wp_floor.proofs.WaveChains.{value_at}
use Rattle.wp_floor.proofs.waves.Waves.put_back.Goals as goal

pub returns : goal.returns
returns c =
    let old = c.args.self.now in
    let found = c.args.found in
    let chain = c.index_mut-chain.result.now in
    let there = value_at old.chains.items found.place _ chain c.requires c.index_mut-chain.ensures.value in
    record {
      chains = λ before was.
          let same : chain ≡ before = same_Some chain before (sym there ∙ was) in
          let back = c.put_back_on.ensures ∙ (ap (λ (ns : List NumberedWave). ns ++ reverse found.after) c.push.ensures
          ∙ (append_assoc chain (numbered_of found ∷ []) (reverse found.after)
          ∙ ap (λ (ns : List NumberedWave). ns ++ numbered_of found ∷ reverse found.after) same)) in
          ap (slice_set old.chains.items found.place) back;
      count = refl;
    }
