use Rattle.std.proofs.Common.{refl}
use Rattle.std.proofs.lemmas.Result.{err_from_is_err_and}
use Rattle.wp_visit.specs.Courses.{failed}
use Rattle.wp_visit.proofs.Children.{reached_place}
use Rattle.wp_visit.proofs.Courses.{all_met, deeper_on, past_on}
use Rattle.wp_visit.proofs.visit.Visit.visit_from.Goals as goal

pub returns-in_err-enter-clause-course : goal.returns-in_err-enter-clause-course
returns-in_err-enter-clause-course g c =
    let p = err_from_is_err_and c.from_residual.result c.from_residual.ensures.1 in rw (p.1, p.2) (failed c.in_err-enter.ensures.enters)

pub returns-in-Deeper-clause-course : goal.returns-in-Deeper-clause-course
returns-in-Deeper-clause-course g c = deeper_on _ _ refl c.in-Deeper.is c.in_ok-enter.ensures.enters c.visit_below.ensures.course

pub returns-in-Deeper-clause-met : goal.returns-in-Deeper-clause-met
returns-in-Deeper-clause-met g c = all_met _ _ c.args.place.now.batch c.args.place.now.from _ _ c.visit_below.result
    (reached_place c.args.self.now.pairing c.args.place.now.batch c.requires.at.reached)
    (deeper_on _ _ refl c.in-Deeper.is c.in_ok-enter.ensures.enters c.visit_below.ensures.course)

pub returns-in-Past-clause-course : goal.returns-in-Past-clause-course
returns-in-Past-clause-course g c = past_on _ _ refl c.in-Past.is c.in_ok-enter.ensures.enters
