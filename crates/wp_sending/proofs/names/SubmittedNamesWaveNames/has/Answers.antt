use Rattle.std.proofs.Common.{◌∙◌, ap}
use Rattle.std.specs.Prelude.{is_some}
use Rattle.wp_model.specs.History.{state_after}
use Rattle.wp_model.specs.Step.{wave_from}
use Rattle.wp_sending.proofs.FoundNames.{found_among, some_mapped}
use Rattle.wp_sending.proofs.names.SubmittedNamesWaveNames.has.Goals as goal

pub returns : goal.returns
returns c =
    let waves = (state_after c.args.self.now.machine.now).waves in
    c.is_some.ensures
    ∙ (ap is_some c.state.ensures
    ∙ (some_mapped _ (wave_from 0 waves c.args.name.now) ∙ found_among 0 waves c.args.name.now))
