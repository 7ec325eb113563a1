use Rattle.std.proofs.lemmas.Bool.{both_ways}
use Rattle.std.proofs.lemmas.Result.{err_from_is_err_and}
use Rattle.wp_cert.proofs.TreeNodes.{split_broken, split_decided, split_kept}
use Rattle.wp_cert.proofs.node.test_split.Goals as goal

pub returns-in_err-net-in-Some-clause-err : goal.returns-in_err-net-in-Some-clause-err
returns-in_err-net-in-Some-clause-err c =
    let same = rw c.wave.ensures at c.pairs_of-pairs.ensures in
    let p = err_from_is_err_and c.from_residual.result c.from_residual.ensures.1 in
    rw (p.1, p.2) (λ named. split_broken _ _ _ _ _ _ c.in-Some.own _ _ same c.in-Some.is (c.in_err-net-in-Some.ensures.err named))

pub returns-then-not-is_open-clause-err : goal.returns-then-not-is_open-clause-err
returns-then-not-is_open-clause-err c =
    let same = rw c.wave.ensures at c.pairs_of-pairs.ensures in
    λ _. split_decided _ _ _ _ _ _ c.in-Some.own _ same c.in-Some.is c.in_ok-net-in-Some.ensures.ok
    (λ parts. both_ways c.is_open.result c.if-not-is_open.true (c.is_open.ensures.1 parts))

pub returns-in-None-clause-err : goal.returns-in-None-clause-err
returns-in-None-clause-err c = λ _. split_kept _ _ _ _ _ _ c.in-None.is
