use Rattle.wp_floor.proofs.HeldUnits.{row_is_found}
use Rattle.wp_floor.proofs.ReceivedUnits.{all_have_articles, received}
use Rattle.wp_floor.proofs.floor.Floor.receive.Goals as goal

pub receive_at-requires-clause-rows : goal.receive_at-requires-clause-rows
receive_at-requires-clause-rows c = (row_is_found c.args.self.now.book.rows c.args.location.now c.args.row c.in-Some.row c.requires.row c.in-Some.is).within

pub receive_at-requires-clause-articles : goal.receive_at-requires-clause-articles
receive_at-requires-clause-articles c = all_have_articles c.args.opening.now c.args.self.now c.requires.floor

pub returns-in-Some : goal.returns-in-Some
returns-in-Some c =
    let old = c.args.self.now in
    let found = row_is_found old.book.rows c.args.location.now c.args.row c.in-Some.row c.requires.row c.in-Some.is in
    received c.args.opening.now c.args.location.now c.args.article.now c.args.quantity c.in-Some.row found.row old c.receive_at.new.book c.receive_at.result
    c.requires.floor found.found (c.receive_at.ensures found.row found.there)
