use Rattle.std.proofs.lemmas.Result.{err_from_is_err_and}
use Rattle.wp_cert.proofs.TreeNodes.{kept_right, leaf_broken, leaf_right}
use Rattle.wp_cert.proofs.node.test_leaf.Goals as goal

pub returns-in_err-net-in-Some-clause-err : goal.returns-in_err-net-in-Some-clause-err
returns-in_err-net-in-Some-clause-err c =
    let same = rw c.wave.ensures at c.pairs_of-pairs.ensures in
    let p = err_from_is_err_and c.from_residual.result c.from_residual.ensures.1 in
    rw (p.1, p.2) (λ named. leaf_broken _ _ _ _ c.in-Some.own _ _ same c.in-Some.is (c.in_err-net-in-Some.ensures.err named))

pub returns-in-None-clause-ok : goal.returns-in-None-clause-ok
returns-in-None-clause-ok c = kept_right _ _ _ _ _ c.in-None.is c.rounded.ensures

pub returns-in_ok-net-in-Some-clause-ok : goal.returns-in_ok-net-in-Some-clause-ok
returns-in_ok-net-in-Some-clause-ok c =
    let same = rw c.wave.ensures at c.pairs_of-pairs.ensures in
    leaf_right _ _ _ _ _ _ c.in-Some.own _ same c.in-Some.is c.in_ok-net-in-Some.ensures.ok c.in_ok-net-in-Some.ensures.net c.rounded-in-Some.ensures
