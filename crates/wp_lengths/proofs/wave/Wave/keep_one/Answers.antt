use Rattle.std.proofs.Common.{ap, subst}
use Rattle.std.proofs.lemmas.List.Elements.{All-set}
use Rattle.wp_model.specs.Tours.{IsShortest}
use Rattle.wp_model.specs.Warehouse.{Layout}
use Rattle.wp_lengths.specs.KeptLengths.{IsKeptLength}
use Rattle.wp_lengths.specs.Lengths.{IsLengthOf, batch_picks}
use Rattle.wp_lengths.specs.Waves.{WavePicks}
use Rattle.wp_lengths.proofs.Unions.{same_shortest}
use Rattle.wp_lengths.proofs.wave.Wave.keep_one.Goals as goal

pub returns-then-place-lengths : goal.returns-then-place-lengths
returns-then-place-lengths c =
    let is : IsLengthOf c.args.self.now c.args.picked.now.batch c.tour_length-length.result =
    subst (λ (layout : Layout). IsShortest layout (batch_picks c.args.self.now c.args.picked.now.batch) c.tour_length-length.result)
    (ap (λ (w : WavePicks). w.layout) c.self.view_is)
    (same_shortest _ _ _ _ c.requires.picked.points c.tour_length-length.ensures.shortest) in
    All-set (IsKeptLength c.args.self.now) _ _ _ (record { is = is; small = c.tour_length-length.ensures.small }) c.requires.kept
