use Rattle.wp_model.proofs.Served.{each_state_is_sound}
use Rattle.wp_floor.proofs.Floors.{is_opening}
use Rattle.wp_desk.proofs.run.day_of.Goals as goal

pub returns-clause-sound : goal.returns-clause-sound
returns-clause-sound g c = each_state_is_sound c.args.machine (is_opening c.args.machine.opening c.count-legal.ensures.read)
