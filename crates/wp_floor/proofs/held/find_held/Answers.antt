use Rattle.std.proofs.Common.{◌∙◌, sym}
use Rattle.wp_floor.proofs.HeldUnits.{held_there_is, row_is_found}
use Rattle.wp_floor.proofs.held.find_held.Goals as goal

pub held_at_row-requires : goal.held_at_row-requires
held_at_row-requires c = (row_is_found c.args.book.now.rows c.args.claim.now.location c.args.claim.now.row c.in_ok-row.row c.requires.row
    c.in_ok-row.was).within

pub returns : goal.returns
returns c =
    let found = row_is_found c.args.book.now.rows c.args.claim.now.location c.args.claim.now.row c.in_ok-row.row c.requires.row c.in_ok-row.was in
    c.held_at_row.ensures found.row found.there
    ∙ sym (held_there_is c.args.book.now c.args.number c.args.wave.now c.args.claim.now.order c.args.claim.now.location c.in_ok-place.place c.in_ok-row.row
    found.row (sym c.in_ok-place.ensures) found.found)
