use Rattle.std.proofs.Common.{inl, inr, refl}
use Rattle.std.proofs.lemmas.Result.{err_from_is_err_and}
use Rattle.wp_cert.proofs.own.test_tested.Goals as goal

pub returns-in_err-test_marks-clause-err : goal.returns-in_err-test_marks-clause-err
returns-in_err-test_marks-clause-err c =
    let p = err_from_is_err_and c.from_residual.result c.from_residual.ensures.1 in
    rw (p.1, p.2) (λ named. inl (c.in_err-test_marks.ensures.err named))

pub returns-in-Some-clause-err : goal.returns-in-Some-clause-err
returns-in-Some-clause-err c = λ _. inr (c.in_ok-test_marks.ensures.ok, (c.in-Some.order, c.in-Some.ensures.some, refl))
