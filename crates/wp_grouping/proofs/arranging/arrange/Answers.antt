use Rattle.std.proofs.Common.{◌≡◌, Vec, sym, subst}
use Rattle.std.specs.declared.alloc.Global.{Global}
use Rattle.wp_grouping.proofs.Shapes.{are_waves}
use Rattle.wp_grouping.specs.Gathering.{waves_by_key}
use Rattle.wp_grouping.specs.Shape.{AreRight}
use Rattle.wp_model.proofs.Elements.{at_some}
use Rattle.wp_waves.specs.Filling.{waves_kept}
use Rattle.wp_waves.specs.Waves.{AreWavesOf}
use Rattle.wp_waves.specs.declared.open_orders.OpenOrder.{OpenOrder}
use Rattle.wp_grouping.proofs.arranging.arrange.Goals as goal

pub returns-in-Some-clause-right : goal.returns-in-Some-clause-right
returns-in-Some-clause-right c =
    let served = c.args.served.now in
    let keys = c.args.keys.now in
    let found = c.in_ok-proposal.proposal in
    let are = at_some found (λ (ws : Vec (Vec OpenOrder Global) Global). waves_kept ws.items ≡ waves_by_key served keys) c.in-Some.waves c.in-Some.is
    c.in_ok-proposal.ensures.some in
    let right = at_some found (λ (ws : Vec (Vec OpenOrder Global) Global). AreRight c.args.most (waves_kept ws.items)) c.in-Some.waves c.in-Some.is
    c.in_ok-proposal.ensures.right in
    subst (AreWavesOf c.args.most served) (sym are)
    (are_waves c.args.most served keys c.requires.room c.requires.count (subst (AreRight c.args.most) are right))
