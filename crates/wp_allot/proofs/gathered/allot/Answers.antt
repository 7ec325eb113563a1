use Rattle.std.proofs.Common.{◌∙◌, ap, List, ◌++◌, length, arith}
use Rattle.wp_model.specs.declared.row.Hold.{Hold}
use Rattle.wp_allot.proofs.AllottedUnits.{can_hold, is_allotted}
use Rattle.wp_allot.proofs.OverlapHolds.{listed}
use Rattle.wp_allot.proofs.UntouchedStock.{keeps_excepted, keeps_other_articles}
use Rattle.wp_allot.proofs.gathered.allot.Goals as goal

pub put_all-requires : goal.put_all-requires
put_all-requires c = omega (arith, ap length c.as_slice.ensures, ap length c.requires.list.empty, c.requires.list.size, c.holds_by_overlap.ensures.few)

pub hold-requires : goal.hold-requires
hold-requires c = can_hold c.args.book.now c.args.wants.now c.args.except c.args.room c.holds_by_overlap.new.room c.holds_by_overlap.ensures

pub returns-clause-exact : goal.returns-clause-exact
returns-clause-exact c = is_allotted c.args.wave c.args.wants.now c.args.except c.args.room c.holds_by_overlap.new.room c.args.book.now c.hold.new.self
    c.holds_by_overlap.ensures c.hold.ensures

pub returns-clause-listed : goal.returns-clause-listed
returns-clause-listed c =
    listed c.args.book.now.rows c.args.wants.now c.args.except c.args.room c.holds_by_overlap.new.room c.args.list.now c.put_all.new.self
    c.holds_by_overlap.ensures c.requires.list
    (c.put_all.ensures ∙ ap (λ (holds : List Hold). record { size = c.args.list.now.size; holds = c.args.list.now.holds ++ holds }) c.as_slice.ensures)

pub returns-clause-others : goal.returns-clause-others
returns-clause-others c = keeps_other_articles c.args.wave c.args.wants.now c.args.except c.args.book.now c.hold.new.self (returns-clause-exact c)

pub returns-clause-excepted : goal.returns-clause-excepted
returns-clause-excepted c = keeps_excepted c.args.wave c.args.wants.now c.args.except c.args.book.now c.hold.new.self (returns-clause-exact c)

pub returns-clause-earlier : goal.returns-clause-earlier
returns-clause-earlier c = (returns-clause-exact c).held
