use Rattle.std.proofs.Common.{◌∙◌, ap, Some}
use Rattle.wp_floor.proofs.WaveStates.{state_known, state_unknown}
use Rattle.wp_floor.proofs.floor.Floor.state.Goals as goal

pub returns-in-Some : goal.returns-in-Some
returns-in-Some c =
    ap Some c.state.ensures
    ∙ state_known c.requires.0 c.args.self.now c.args.wave.now c.in-Some.kept.now c.in-Some.ensures.some.1.0 c.requires.1 c.in-Some.ensures.some.0
    c.in-Some.ensures.some.1.1

pub returns-in-None : goal.returns-in-None
returns-in-None c = state_unknown c.args.self.now c.args.wave.now c.in-None.ensures.none
