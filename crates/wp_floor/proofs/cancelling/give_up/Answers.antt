use Rattle.wp_floor.proofs.GivenUpWaves.{given_up}
use Rattle.wp_floor.proofs.cancelling.give_up.Goals as goal

pub returns-clause-answered : goal.returns-clause-answered
returns-clause-answered c opening waves at = given_up opening c.args.book.now c.unhold.new.self waves c.args.number c.args.wave.now at c.unhold.ensures
