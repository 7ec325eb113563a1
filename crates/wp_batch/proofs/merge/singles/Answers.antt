use Rattle.std.proofs.Common.{◌≡◌, ℕ, arith, length, subst}
use Rattle.wp_batch.proofs.Singles.{AreSingles, one_more_alone, singles_are_batching, singles_are_listed}
use Rattle.wp_batch.proofs.merge.singles.Goals as goal

pub loop-order-preserved : goal.loop-order-preserved
loop-order-preserved c = rw c.in_ok-push.ensures.items (one_more_alone _ _ _ _ c.loop-order.invariant c.empty.ensures
    c.with.ensures.valid c.with.ensures.orders)

pub returns-clause-batching : goal.returns-clause-batching
returns-clause-batching c =
    let all : c.loop-order.order ≡ length c.args.instance.now.wave.now.orders = omega (arith, c.orders-order-end.ensures.value) in
    singles_are_batching _ _ _ c.orders-order-end.ensures.valid
    (subst (λ (n : ℕ). AreSingles c.loop-order.batches.items n) all c.loop-order.invariant) c.requires

pub returns-clause-alone : goal.returns-clause-alone
returns-clause-alone c =
    let all : c.loop-order.order ≡ length c.args.instance.now.wave.now.orders = omega (arith, c.orders-order-end.ensures.value) in
    let end = subst (λ (n : ℕ). AreSingles c.loop-order.batches.items n) all c.loop-order.invariant in
    record { count = end.whole; own = end.own }

pub returns-clause-listed : goal.returns-clause-listed
returns-clause-listed c = singles_are_listed _ _ c.loop-order.invariant
