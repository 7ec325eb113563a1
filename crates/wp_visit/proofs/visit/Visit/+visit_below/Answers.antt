use Rattle.std.proofs.Common.{arith}
use Rattle.std.specs.Prelude.{Err}
use Rattle.std.proofs.lemmas.Result.{err_from_is_err_and}
use Rattle.wp_visit.specs.Courses.{all_added, broken_off, failed, no_child, onward}
use Rattle.wp_visit.proofs.Courses.{deeper_on, past_on}
use Rattle.wp_visit.proofs.visit.Visit.+visit_below.Goals as goal
use Rattle.wp_visit.proofs.visit.Visit.+visit_below.Goals.{in-Some+in_ok-enter+in-Deeper+in_ok-visit_below-in-Deeper, in-Some+in_ok-enter+in-Past, in_default}

pub returns-in_err-enter-clause-course : goal.returns-in_err-enter-clause-course
returns-in_err-enter-clause-course g t c =
    let p = err_from_is_err_and c.from_residual.result c.from_residual.ensures.1 in
    rw (p.1, p.2) (c.loop-order.invariant.course _ _
    (broken_off c.in-Some.ensures.item c.in-Some.ensures.adds c.in-Some.ensures.permitted
    (failed (rw c.in-Some.ensures.from at c.in_err-enter.ensures.enters))))

pub returns-in_err-visit_below-in-Deeper-clause-course : goal.returns-in_err-visit_below-in-Deeper-clause-course
returns-in_err-visit_below-in-Deeper-clause-course g t c =
    let p = err_from_is_err_and c.from_residual-in_err-visit_below-in-Deeper.result c.from_residual-in_err-visit_below-in-Deeper.ensures.1 in
    rw (p.1, p.2) (c.loop-order.invariant.course _ _
    (broken_off c.in-Some.ensures.item c.in-Some.ensures.adds c.in-Some.ensures.permitted
    (deeper_on {end = Err c.in_err-visit_below-in-Deeper.field-0.0} _ _ c.in-Some.ensures.from c.in-Deeper.is c.in_ok-enter.ensures.enters
    c.in_err-visit_below-in-Deeper.ensures.course)))

pub loop-order-preserved : goal.loop-order-preserved
loop-order-preserved g t c = elim c.match-child_of.branch [
  | in-Some+in_ok-enter+in-Deeper+in_ok-visit_below-in-Deeper w ↦ rw w.visitor-is (record {
    fits = w.in_ok-visit_below-in-Deeper.ensures.fits;
    course = λ end new rest. c.loop-order.invariant.course end new
        (onward w.in-Some.ensures.item w.in-Some.ensures.adds w.in-Some.ensures.permitted
        (deeper_on _ _ w.in-Some.ensures.from w.in-Deeper.is w.in_ok-enter.ensures.enters w.in_ok-visit_below-in-Deeper.ensures.course) rest);
  })
  | in-Some+in_ok-enter+in-Past w ↦ rw w.visitor-is (record {
    fits = w.in_ok-enter.ensures.fits;
    course = λ end new rest. c.loop-order.invariant.course end new
        (onward w.in-Some.ensures.item w.in-Some.ensures.adds w.in-Some.ensures.permitted
        (past_on _ _ w.in-Some.ensures.from w.in-Past.is w.in_ok-enter.ensures.enters) rest);
  })
  | in_default w ↦ rw w.visitor-is (record {
    fits = c.loop-order.invariant.fits;
    course = λ end new rest. c.loop-order.invariant.course end new (no_child w.in_default.ensures.none rest);
  })
]

pub returns-clause-course : goal.returns-clause-course
returns-clause-course g t c =
    c.loop-order.invariant.course _ _ (all_added (omega (arith, c.loop-order-test.false, c.orders-order-end.ensures.value)))
