use Rattle.std.proofs.Common.{subst, sym}
use Rattle.wp_lengths.specs.Waves.{WavePicks}
use Rattle.wp_planner.specs.Plans.{IsPlanOf}
use Rattle.wp_planner.specs.Released.{IsWaveOf}
use Rattle.wp_planner.proofs.planner.plan_of.Goals as goal

pub returns : goal.returns
returns g c =
    let layout = c.args.planning.now.layout.now in
    let opening = c.args.planning.now.opening.now in
    let released = c.args.released.now.wave in
    let found = c.in_ok-planned.field-0 in
    let of = subst (IsWaveOf layout opening released) (sym c.keep_lengths_by.ensures) (rw c.requires at c.in_ok-wave.ensures) in
    subst
    (λ (wave : WavePicks). IsPlanOf layout opening released c.args.planning.now.terms.now
    (record { wave = wave; planned = found.planned; root = found.root }))
    (sym c.keep_lengths.ensures)
    (record {
      wave = of;
      good = c.in_ok-planned.ensures.plan;
      root = c.in_ok-planned.ensures.root;
      certified = c.in_ok-planned.ensures.certified layout opening released of;
    })
