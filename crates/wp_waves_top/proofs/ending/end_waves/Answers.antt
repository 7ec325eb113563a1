use Rattle.wp_waves_top.proofs.Endings.{waves_finish}
use Rattle.wp_waves_top.proofs.ending.end_waves.Goals as goal

pub returns-clause-ended : goal.returns-clause-ended
returns-clause-ended g c =
    waves_finish _ _ c.args.output c.ending_with.result c.finish.result c.ending_with.ensures c.finish.ensures.finishes c.finish.ensures.nothing
