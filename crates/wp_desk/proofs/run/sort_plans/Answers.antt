use Rattle.std.proofs.Common.{rules, map}
use Rattle.std.proofs.lemmas.List.Sorted.{All-permutation, IsNonDecreasingBy-from_sort_by_key, IsPermutation-map, IsPermutation-trans}
use Rattle.wp_desk.proofs.Rising.{sorted_waves, waves_rise}
use Rattle.wp_desk.specs.GoingOn.{released_after}
use Rattle.wp_desk.specs.declared.day_run.Planned.{Planned}
use Rattle.wp_machine.specs.declared.outcome.WaveHolds.{WaveHolds}
use Rattle.wp_desk.proofs.run.sort_plans.Goals as goal

pub returns-clause-waves : goal.returns-clause-waves
returns-clause-waves g c start entries told =
    let T : Type 0 = g.row.P-Plan.Denot in
    let wave : Planned T → WaveHolds = λ p. p.wave in
    let before = c.args.plans.now.items in
    let after = c.sort_unstable_by_key.new.self.items in
    sorted_waves wave (λ w. w.number) after (released_after start entries) (waves_rise start entries)
    (IsPermutation-trans (released_after start entries) (map wave before) (map wave after) told
    (IsPermutation-map wave before after c.sort_unstable_by_key.ensures.permutation))
    (IsNonDecreasingBy-from_sort_by_key (λ p. p.wave.number) _ c.sort_unstable_by_key.ensures.sorted (λ a r q k. search rules))

pub returns-clause-planned : goal.returns-clause-planned
returns-clause-planned g c =
    All-permutation (λ p. g.P.Planner.plans c.args.planner.now p.wave p.plan) c.args.plans.now.items c.sort_unstable_by_key.new.self.items
    c.sort_unstable_by_key.ensures.permutation c.requires.planned
