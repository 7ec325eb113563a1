use Rattle.wp_planner.proofs.Outgoing.{each_release_fills, each_wave_out_is_filled}
use Rattle.wp_planner.proofs.laws.waves_that_go_out_are_filled.Goals as goal

pub returns-clause-release : goal.returns-clause-release
returns-clause-release c = each_release_fills

pub returns-clause-history : goal.returns-clause-history
returns-clause-history c = each_wave_out_is_filled
