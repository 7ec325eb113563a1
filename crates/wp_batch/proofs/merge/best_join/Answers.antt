use Rattle.std.proofs.Common.{◌<◌, arith}
use Rattle.wp_batch.proofs.Gains.{no_gain_at_all, one_more_after}
use Rattle.wp_batch.proofs.merge.best_join.Goals as goal

pub loop-right-preserved : goal.loop-right-preserved
loop-right-preserved c = one_more_after _ _ _ _ _ _ _ c.loop-right.invariant c.best_with.ensures c.better_of-best.ensures.either
    c.better_of-best.ensures.first c.better_of-best.ensures.second

pub returns-then-best-eq0-clause-none : goal.returns-then-best-eq0-clause-none
returns-then-best-eq0-clause-none c = λ left right lt within.
    no_gain_at_all _ _ _ _ _ c.if-best-eq0.true (c.loop-right.invariant.most left right lt (omega (arith, c.loop-right-test.false)))

pub returns-clause-some : goal.returns-clause-some
returns-clause-some c =
    let some : 0 < c.loop-right.best.saving = omega (arith, c.if-best-eq0.false) in
    record {
      some = some;
      can = c.loop-right.invariant.can some;
      most = λ left right lt within. c.loop-right.invariant.most left right lt (omega (arith, within, c.loop-right-test.false));
    }
