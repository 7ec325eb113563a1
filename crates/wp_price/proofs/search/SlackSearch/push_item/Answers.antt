use Rattle.std.proofs.Common.{arith, ap, List, Bool, ◌++◌, ◌∙◌, subst, sym}
use Rattle.std.specs.Prelude.{IfSome, Option, slice_index_or}
use Rattle.wp_price.specs.ItemMarks.{AddsItemMarks, AreItemMarks, AreMarksAt}
use Rattle.wp_price.proofs.ItemMarking.{adds_item, adds_no_item}
use Rattle.wp_price.proofs.Options.{on_ok_so}
use Rattle.wp_price.proofs.search.SlackSearch.push_item.Goals as goal

pub returns-in-Some : goal.returns-in-Some
returns-in-Some c =
    let part = subst (AreMarksAt c.args.self.now c.args.order) (sym c.index-found-worker.is ∙ c.in-Ok.is)
    (c.requires.found c.loop-worker.worker _ (omega (arith, c.loop-worker-test.true))) in
    let there = ap (λ (all : List (Option (List Bool))). slice_index_or all c.args.order c.index.result.now) (sym c.part.view_is)
    ∙ (sym c.index.ensures ∙ c.in-Some.is) in
    let marks = subst (λ (o : Option (List Bool)). IfSome o (AreItemMarks c.args.self.now c.args.order)) there (part.1 c.index.result.now) in
    on_ok_so c.append.result _ _
    (λ is. adds_item c.args.self.now c.args.order c.in-Some.more c.args.marks.now c.append.new.marks marks
    (is ∙ ap (λ (ms : List Bool). ms ++ c.in-Some.more) c.loop-worker.invariant.same)) c.append.ensures

pub returns : goal.returns
returns c = subst (AddsItemMarks c.args.self.now c.args.order c.args.marks.now) (sym c.loop-worker.invariant.same)
    (adds_no_item c.args.self.now c.args.order c.args.marks.now (c.requires.none
    (λ worker d low. c.loop-worker.invariant.none worker d (omega (arith, low, c.loop-worker-test.false)))))
