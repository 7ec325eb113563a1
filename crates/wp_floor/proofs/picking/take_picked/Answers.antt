use Rattle.wp_floor.proofs.TakenUnits.{picked}
use Rattle.wp_floor.proofs.picking.take_picked.Goals as goal

pub returns-clause-answered : goal.returns-clause-answered
returns-clause-answered c opening waves at released within =
    picked opening c.args.book.now c.take.new.self waves c.args.number c.args.wave.now c.settle.new.wave c.args.held c.args.quantity
    (record { at = at; released = released; within = within; enough = c.requires; taken = c.take.ensures })
    (record { none = c.settle.ensures.none; some = c.settle.ensures.some })
