use Rattle.std.proofs.Common.{◌≡◌, ◌∙◌, ◌++◌, All, true, sym, ap, subst, subst₂, ℕ, List, take, Vec, length, arith}
use Rattle.std.proofs.lemmas.List.{take_all}
use Rattle.std.proofs.lemmas.List.Elements.{All-push}
use Rattle.std.specs.declared.alloc.Global.{Global}
use Rattle.wp_model.proofs.Elements.{All-at}
use Rattle.wp_model.specs.Name.{is_name}
use Rattle.wp_outgoing.specs.Names.{AreNamesOf, HasShortGroup, IsNameOf, group_of}
use Rattle.wp_waves.proofs.KeptWaves.{kept_at, kept_length}
use Rattle.wp_waves.specs.Filling.{waves_kept}
use Rattle.wp_waves.specs.declared.open_orders.OpenOrder.{OpenOrder}
use Rattle.wp_outgoing.proofs.NamesSoFar.{kept_more, names_more, same_count}
use Rattle.wp_outgoing.proofs.names.names_of.Goals as goal

pub group_of-group-requires : goal.group_of-group-requires
group_of-group-requires g c =
    let waves = c.args.waves.now in
    let i = c.loop-wave.wave-index in
    let wave = c.wave-item.result in
    subst HasShortGroup (sym c.as_slice.ensures.value)
    (All-at HasShortGroup (waves_kept waves) i wave.items c.requires (kept_at waves i wave c.loop-wave-test.true c.wave-item.is))

pub loop-wave-preserved : goal.loop-wave-preserved
loop-wave-preserved g c =
    let waves = c.args.waves.now in
    let i = c.loop-wave.wave-index in
    let wave = c.wave-item.result in
    let name = c.in_ok-name.name in
    let names = c.loop-wave.names.items in
    let taken : List (List ℕ) = g.N.WaveNames.names c.args.submitted.now in
    let named : IsNameOf (taken ++ names) (group_of wave.items) name =
    subst₂ (λ (before : List (List ℕ)) (group : List ℕ). IsNameOf (taken ++ before) group name) c.as_slice-in-loop-wave.ensures.value
    (c.group_of-group.ensures.group ∙ ap group_of c.as_slice.ensures.value) c.in_ok-name.ensures.name in (
      subst₂ (λ (ws : List (List OpenOrder)) (ns : List (List ℕ)). AreNamesOf taken ws ns)
          (sym (kept_more waves i wave c.loop-wave-test.true c.wave-item.is)) (sym c.in_ok-push.ensures.items)
          (names_more taken (waves_kept (take i waves)) names wave.items name c.loop-wave.invariant.0 named),
      subst (All (λ name. is_name name ≡ true)) (sym c.in_ok-push.ensures.items)
          (All-push (λ name. is_name name ≡ true) names name c.loop-wave.invariant.1 c.in_ok-name.ensures.named),
    )

pub returns-clause-count : goal.returns-clause-count
returns-clause-count g c =
    let waves = c.args.waves.now in
    let i = c.loop-wave.wave-index in
    same_count (g.N.WaveNames.names c.args.submitted.now) (waves_kept (take i waves)) c.loop-wave.names.items c.loop-wave.invariant.0
    ∙ (kept_length (take i waves) ∙ ap (λ (l : List (Vec OpenOrder Global)). length l) (take_all i waves (omega arith)))
