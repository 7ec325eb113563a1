use Rattle.wp_allot.proofs.AllottedUnits.{can_hold, is_allotted}
use Rattle.wp_allot.proofs.UntouchedStock.{keeps_excepted, keeps_other_articles}
use Rattle.wp_allot.proofs.deal.allot.Goals as goal

pub hold-requires : goal.hold-requires
hold-requires c = can_hold c.args.book.now c.args.wants.now c.args.except c.args.room c.holds_by_overlap.new.room c.holds_by_overlap.ensures

pub returns-clause-exact : goal.returns-clause-exact
returns-clause-exact c = is_allotted c.args.wave c.args.wants.now c.args.except c.args.room c.holds_by_overlap.new.room c.args.book.now c.hold.new.self
    c.holds_by_overlap.ensures c.hold.ensures

pub returns-clause-others : goal.returns-clause-others
returns-clause-others c = keeps_other_articles c.args.wave c.args.wants.now c.args.except c.args.book.now c.hold.new.self (returns-clause-exact c)

pub returns-clause-excepted : goal.returns-clause-excepted
returns-clause-excepted c = keeps_excepted c.args.wave c.args.wants.now c.args.except c.args.book.now c.hold.new.self (returns-clause-exact c)

pub returns-clause-waves : goal.returns-clause-waves
returns-clause-waves c = c.hold.ensures.others

pub returns-clause-earlier : goal.returns-clause-earlier
returns-clause-earlier c = (returns-clause-exact c).held
