use Rattle.wp_floor.proofs.RowNumbers.{row_there}
use Rattle.wp_floor.proofs.WaveStock.{refill_fits}
use Rattle.wp_machine.proofs.answers.answer_prepared.Goals as goal

pub pick-requires-clause-row : goal.pick-requires-clause-row
pick-requires-clause-row c =
    let prepared = rw c.in-Pick.is at c.requires.prepared in
    row_there c.args.opening.now c.args.floor.now.book.rows c.in-Pick.claim.location c.in-Pick.claim.row c.requires.floor.rows prepared.1.1.row

pub answer_missing-requires-clause-row : goal.answer_missing-requires-clause-row
answer_missing-requires-clause-row c =
    let prepared = rw c.in-Missing.is at c.requires.prepared in
    row_there c.args.opening.now c.args.floor.now.book.rows c.in-Missing.claim.location c.in-Missing.claim.row c.requires.floor.rows prepared.1.1.row

pub answer_missing-requires-clause-rooms : goal.answer_missing-requires-clause-rooms
answer_missing-requires-clause-rooms c =
    let prepared = rw c.in-Missing.is at c.requires.prepared in
    refill_fits c.args.opening.now c.args.floor.now.book.rows c.in-Missing.claim.row c.in-Missing.claim.quantity c.in-Missing.rooms c.requires.floor.rows
    prepared.1.3

pub receive-requires-clause-row : goal.receive-requires-clause-row
receive-requires-clause-row c =
    let prepared = rw c.in-Receive.is at c.requires.prepared in
    row_there c.args.opening.now c.args.floor.now.book.rows c.in-Receive.location c.in-Receive.row c.requires.floor.rows prepared.1.1

pub pick-requires-clause-order : goal.pick-requires-clause-order
pick-requires-clause-order c = let prepared = rw c.in-Pick.is at c.requires.prepared in prepared.1.1.order

pub answer_missing-requires-clause-order : goal.answer_missing-requires-clause-order
answer_missing-requires-clause-order c = let prepared = rw c.in-Missing.is at c.requires.prepared in prepared.1.1.order
