use Rattle.std.proofs.Common.{ℕ, arith, subst, sym}
use Rattle.wp_price.specs.Searches.{NamesBelow}
use Rattle.wp_price.proofs.Children.{names_more, names_none}
use Rattle.wp_price.proofs.ItemMarking.{marks_of_item}
use Rattle.wp_price.proofs.search.SlackSearch.item_marks.Goals as goal

pub push_marks-requires-clause-past : goal.push_marks-requires-clause-past
push_marks-requires-clause-past c = subst (λ (n : ℕ). NamesBelow c.args.self.now.pairing c.in-Some.child.batch n) (sym c.in-Some.ensures.from)
    (names_more c.args.self.now.pairing c.root.result.batch c.in-Some.child.batch 0 c.args.order (omega arith)
    c.in-Some.ensures.adds (names_none c.args.self.now.pairing c.root.result.batch c.root.ensures.batch))

pub returns-clause-marks : goal.returns-clause-marks
returns-clause-marks c = marks_of_item c.args.self.now c.args.order c.root.result.batch c.in-Some.child c.new.result c.in_ok-marks.marks
    c.root.ensures.batch c.in-Some.ensures.item c.in-Some.ensures.adds c.in-Some.ensures.permitted c.in-Some.ensures.from c.new.ensures
    c.in_ok-marks.ensures
