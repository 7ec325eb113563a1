use Rattle.std.proofs.Common.{List, ℕ, arith, subst}
use Rattle.wp_batch.specs.Joins.{NoJoinGains}
use Rattle.wp_batch.specs.Savings.{begun, onward}
use Rattle.wp_batch.proofs.Costs.{no_more_through}
use Rattle.wp_batch.proofs.merge.merge.Goals as goal

pub loop-join-init : goal.loop-join-init
loop-join-init c = record {
  batching = c.requires.batching;
  listed = c.requires.listed;
  fewer = omega arith;
  merged = begun;
  no_dearer = λ less is. (less, is, omega arith);
}

pub loop-join-preserved : goal.loop-join-preserved
loop-join-preserved c =
    let greatest = rw c.as_slice.ensures.value at c.in-Some.ensures.some in
    record {
      batching = c.join_batches.ensures.batching;
      listed = c.join_batches.ensures.listed;
      fewer = omega (arith, c.loop-join.invariant.fewer, c.join_batches.ensures.count);
      merged = onward c.loop-join.invariant.merged c.in-Some.join greatest c.join_batches.ensures.joined;
      no_dearer = no_more_through c.args.instance.now.wave.now _ _ _ c.loop-join.invariant.no_dearer c.join_batches.ensures.no_dearer;
    }

pub returns-clause-joined : goal.returns-clause-joined
returns-clause-joined c =
    subst (λ (batches : List (List ℕ)). NoJoinGains c.args.instance.now.wave.now c.args.instance.now.capacity batches) c.as_slice.ensures.value
    c.in_default.ensures.none
