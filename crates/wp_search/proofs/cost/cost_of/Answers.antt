use Rattle.std.proofs.Common.{ℕ, List, [], arith, subst, sym}
use Rattle.std.proofs.lemmas.Option.{get_or_from_slice_get, slice_get_within}
use Rattle.wp_lengths.specs.Lengths.{IsLengthOf}
use Rattle.wp_search.proofs.CostSums.{cost_more}
use Rattle.wp_search.proofs.cost.cost_of.Goals as goal

pub loop-place-preserved : goal.loop-place-preserved
loop-place-preserved c =
    let read = get_or_from_slice_get c.args.batching.now c.loop-place.place c.at.result.now [] c.at.ensures in record {
      so_far = cost_more c.args.wave.now c.args.batching.now c.loop-place.place c.loop-place.cost c.batch_length-cost.result
          (slice_get_within c.args.batching.now c.loop-place.place c.at.result.now c.at.ensures) c.loop-place.invariant.so_far
          (subst (λ (batch : List ℕ). IsLengthOf c.args.wave.now batch c.batch_length-cost.result) (sym read) c.batch_length-cost.ensures.is);
      small = omega (arith, c.loop-place.invariant.small, c.batch_length-cost.ensures.small);
    }
