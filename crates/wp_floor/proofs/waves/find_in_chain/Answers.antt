use Rattle.std.proofs.Common.{◌∙◌, sym, ap, ◌++◌, ◌∷◌, [], List}
use Rattle.std.proofs.lemmas.List.{append_assoc}
use Rattle.std.proofs.lemmas.Slice.Eq.{bytes_eq-Decides}
use Rattle.wp_floor.specs.declared.waves.NumberedWave.{NumberedWave}
use Rattle.wp_floor.proofs.waves.find_in_chain.Goals as goal

pub returns-then-is_named-clause-named : goal.returns-then-is_named-clause-named
returns-then-is_named-clause-named c =
    (bytes_eq-Decides c.in-Some.wave.now.wave.name c.args.name.now).0 (sym c.is_named.ensures ∙ c.if-is_named.true)

pub returns-then-is_named-clause-some : goal.returns-then-is_named-clause-some
returns-then-is_named-clause-some c =
    let wave = c.in-Some.wave.now in
    let below = c.in-Some.below.now in
    let above = c.loop-wave.invariant.parts.0 in
    let parts = c.loop-wave.invariant.parts.1 ∙ (ap (λ (at : List NumberedWave). at ++ above) c.in-Some.ensures.some ∙ append_assoc below (wave ∷ []) above) in
    (below, (above, parts))
