use Rattle.std.proofs.Common.{arith, subst}
use Rattle.std.proofs.lemmas.List.{take_all}
use Rattle.wp_floor.specs.WantLists.{AreSplit, HaveAdded}
use Rattle.wp_floor.proofs.OrderWants.{added_more, added_none, articles_more, before_next, fits_more}
use Rattle.wp_floor.proofs.wanting.add_order.Goals as goal

pub loop-line-init : goal.loop-line-init
loop-line-init c = record {
  split = subst (λ n. AreSplit n c.args.place c.args.wants.now.items) (omega (arith, c.len-start.ensures)) c.requires.before;
  added = added_none c.args.place c.args.wants.now.items;
  articles = λ articles each all. all;
}

pub add_line-requires-clause-small : goal.add_line-requires-clause-small
add_line-requires-clause-small c =
    fits_more c.args.place c.args.lines.now c.loop-line.line-index _ c.args.wants.now.items c.loop-line.wants.items c.loop-line-test.true c.requires.small
    c.loop-line.invariant.added

pub loop-line-preserved : goal.loop-line-preserved
loop-line-preserved c =
    let lines = c.args.lines.now in
    let old = c.args.wants.now.items in
    record {
      split = c.in_ok-add_line.ensures.split;
      added = added_more c.args.place lines c.loop-line.line-index _ old c.loop-line.wants.items c.add_line.new.wants.items c.loop-line-test.true
          c.loop-line.invariant.added c.in_ok-add_line.ensures.added;
      articles = articles_more lines c.loop-line.line-index _ old c.loop-line.wants.items c.add_line.new.wants.items c.loop-line-test.true
          c.loop-line.invariant.articles c.in_ok-add_line.ensures.articles;
    }

pub returns-clause-before : goal.returns-clause-before
returns-clause-before c = before_next c.len-start.result c.args.place c.loop-line.wants.items c.loop-line.invariant.split

pub returns-clause-added : goal.returns-clause-added
returns-clause-added c =
    subst (λ lines. HaveAdded c.args.place lines c.args.wants.now.items c.loop-line.wants.items)
    (take_all c.loop-line.line-index c.args.lines.now (omega arith)) c.loop-line.invariant.added
