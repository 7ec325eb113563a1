use Rattle.std.proofs.Common.{◌≡◌, ◌<◌, List, arith, get_or, length, subst, ap}
use Rattle.wp_graph.specs.PickSets.{PickSet}
use Rattle.wp_lengths.proofs.Unions.{one_more_copied}
use Rattle.wp_lengths.proofs.wave.copies_of.Goals as goal

pub loop-picks-preserved : goal.loop-picks-preserved
loop-picks-preserved c =
    let same = c.deref-picks-items.ensures.value in
    let within = subst (λ (xs : List PickSet). c.loop-picks.picks-index < length xs) same c.loop-picks-test.true in
    let is = subst (λ (xs : List PickSet). c.picks-item.result ≡ get_or xs c.loop-picks.picks-index c.picks-item.result) same c.picks-item.is in
    rw c.in_ok-push.ensures.items
    (one_more_copied _ _ _ _ c.picks-item.result _ c.loop-picks.invariant within is c.copy_of.ensures.layout c.copy_of.ensures.points)

pub returns-clause-same : goal.returns-clause-same
returns-clause-same c =
    let all = ap (λ (xs : List PickSet). length xs) c.deref-picks-items.ensures.value in
    let copied = c.loop-picks.invariant in
    record {
      count = omega (arith, copied.count, all, c.loop-picks-test.false, c.loop-picks.auto.picks-index-end);
      each = λ order d low. copied.each order d (omega (arith, copied.count));
    }
