use Rattle.wp_model.proofs.Served.{each_state_is_sound}
use Rattle.wp_model.proofs.Sound.{opening_is_sound, step_keeps_sound}
use Rattle.wp_model.proofs.laws.states_are_sound.Goals as goal

pub returns-clause-opening : goal.returns-clause-opening
returns-clause-opening c = opening_is_sound

pub returns-clause-step : goal.returns-clause-step
returns-clause-step c = step_keeps_sound

pub returns-clause-history : goal.returns-clause-history
returns-clause-history c = each_state_is_sound
