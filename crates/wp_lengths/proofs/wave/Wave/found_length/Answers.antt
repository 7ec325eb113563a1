use Rattle.std.proofs.Common.{ap, subst}
use Rattle.wp_model.specs.Tours.{IsShortest}
use Rattle.wp_model.specs.Warehouse.{Layout}
use Rattle.wp_lengths.specs.Lengths.{batch_picks}
use Rattle.wp_lengths.specs.Waves.{WavePicks}
use Rattle.wp_lengths.proofs.Unions.{same_shortest}
use Rattle.wp_lengths.proofs.wave.Wave.found_length.Goals as goal

pub returns-clause-is : goal.returns-clause-is
returns-clause-is c =
    subst (λ (layout : Layout). IsShortest layout (batch_picks c.args.self.now c.args.batch) c.tour_length.result)
    (ap (λ (w : WavePicks). w.layout) c.self.view_is)
    (same_shortest _ _ _ _ c.join_orders.ensures.points c.tour_length.ensures.shortest)
