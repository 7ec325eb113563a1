use Rattle.std.specs.Prelude.{slice_index_or, []}
use Rattle.std.proofs.Common.{arith}
use Rattle.std.proofs.lemmas.Bool.{both_ways}
use Rattle.std.proofs.lemmas.Result.{err_from_is_err_and}
use Rattle.wp_cuts.proofs.PricedMarks.{marks_show_feasible}
use Rattle.wp_cert.proofs.OwnTests.{broken_test, decided_prices}
use Rattle.wp_cert.specs.Refusals.{low, not_all}
use Rattle.wp_cert.proofs.own.test_own.Goals as goal

pub returns-then-not-has_all-clause-err : goal.returns-then-not-has_all-clause-err
returns-then-not-has_all-clause-err c = λ _. not_all (λ all. both_ways c.has_all.result c.if-not-has_all.true (c.has_all.ensures.1 all))

pub returns-then-not-may_have_prices-clause-err : goal.returns-then-not-may_have_prices-clause-err
returns-then-not-may_have_prices-clause-err c = λ _. decided_prices (c.has_all.ensures.0 c.if-not-has_all.false)
    (c.may_have_prices.ensures.decided c.if-not-may_have_prices.true) (c.may_have_prices.ensures.priced c.if-not-may_have_prices.true)

pub returns-then-net-above-clause-err : goal.returns-then-net-above-clause-err
returns-then-net-above-clause-err c = λ _. low (c.has_all.ensures.0 c.if-not-has_all.false)
    (c.may_have_prices.ensures.yes c.if-not-may_have_prices.false) (omega (arith, c.if-net-above.true, c.net-net.ensures))

pub returns-in_err-test_tested-clause-err : goal.returns-in_err-test_tested-clause-err
returns-in_err-test_tested-clause-err c =
    let p = err_from_is_err_and c.from_residual.result c.from_residual.ensures.1 in
    rw (p.1, p.2) (λ named. broken_test _ _ _ _ _ (c.has_all.ensures.0 c.if-not-has_all.false)
    (c.may_have_prices.ensures.yes c.if-not-may_have_prices.false) (omega (arith, c.if-net-above.false, c.net-net.ensures))
    (c.in_err-test_tested.ensures.err named))

pub returns-clause-ok : goal.returns-clause-ok
returns-clause-ok c = record {
  all = c.has_all.ensures.0 c.if-not-has_all.false;
  allowed = c.may_have_prices.ensures.yes c.if-not-may_have_prices.false;
  raised = omega (arith, c.if-net-above.false, c.net-net.ensures);
  feasible = marks_show_feasible _ _ _ _ _ _ c.in_ok-test_tested.ensures.marked;
  marked = c.in_ok-test_tested.ensures.marked;
  tight = λ order low. (slice_index_or c.args.own.now.tight order [], c.in_ok-test_tested.ensures.shown order low);
  shown = c.in_ok-test_tested.ensures.shown;
}
