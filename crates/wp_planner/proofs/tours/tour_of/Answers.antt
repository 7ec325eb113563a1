use Rattle.std.proofs.lemmas.Result.{IfOk-weaker}
use Rattle.wp_planner.proofs.BatchTours.{batch_tour}
use Rattle.wp_planner.proofs.tours.tour_of.Goals as goal

pub returns : goal.returns
returns c total is =
    let chosen = c.tour_choice-choice.ensures in
    IfOk-weaker c.walk_of.result _ _
    (λ walk tour. batch_tour c.args.wave.now c.args.batch _ _ walk.items total chosen.0
    c.layout-layout.ensures c.union_of-picks.ensures.points is chosen.2 tour)
    (c.walk_of.ensures chosen.0 chosen.1)
