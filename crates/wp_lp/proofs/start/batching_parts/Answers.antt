use Rattle.std.proofs.Common.{◌≡◌, ◌<◌, ◌^◌, ◌++◌, ◌∷◌, [], ℕ, List, length, map, arith, rules, ap, sym, subst, refl, ◌∙◌}
use Rattle.std.proofs.lemmas.List.{get_or_default, map_push, take_all}
use Rattle.std.proofs.lemmas.List.Elements.{All-push, All-same}
use Rattle.wp_pairs.specs.Permitted.{IsPermitted}
use Rattle.wp_lp.specs.Parts.{IsWeightedBatch}
use Rattle.wp_lp.specs.declared.part.WeightedBatch.{WeightedBatch}
use Rattle.wp_lp.proofs.Pools.{taken_more}
use Rattle.wp_lp.proofs.Starts.{batching_cost, batching_exact, batching_priced}
use Rattle.wp_lp.proofs.start.batching_parts.Goals as goal

pub loop-batch-preserved : goal.loop-batch-preserved
loop-batch-preserved c =
    let before = c.loop-batch.invariant in
    let items = c.in_ok-push.ensures.items in
    let taken = taken_more c.args.batches.now c.loop-batch.batch-index c.batch-item.result c.loop-batch-test.true c.batch-item.is in
    let permitted = subst (IsPermitted c.args.given.now.pairs.now)
    (get_or_default c.args.batches.now c.loop-batch.batch-index [] c.batch-item.result c.loop-batch-test.true ∙ sym c.batch-item.is)
    (c.requires.each c.loop-batch.batch-index c.loop-batch-test.true) in
    record {
      are = ap (map (λ (part : WeightedBatch). part.batch)) items ∙ map_push (λ (part : WeightedBatch). part.batch) c.loop-batch.parts.items _
          ∙ ap (λ (xs : List (List ℕ)). xs ++ c.batch-item.result ∷ []) before.are ∙ sym taken;
      weights = All-same (λ (part : WeightedBatch). part.weight ≡ c.args.weight) _ _ items
          (All-push (λ (part : WeightedBatch). part.weight ≡ c.args.weight) _ _ before.weights refl);
      small = All-same (λ (part : WeightedBatch). part.length < 2 ^ 28) _ _ items (All-push (λ (part : WeightedBatch). part.length < 2 ^ 28) _ _ before.small
          c.batch_length.ensures.small);
      each = All-same (IsWeightedBatch c.args.given.now.wave.now c.args.given.now.pairs.now) _ _ items
          (All-push (IsWeightedBatch c.args.given.now.wave.now c.args.given.now.pairs.now) _ _ before.each
          (record { permitted = permitted; long = c.batch_length.ensures.is }));
    }

pub returns-clause-exact : goal.returns-clause-exact
returns-clause-exact c = λ order low.
    batching_exact c.args.given.now.pairs.now c.args.batches.now c.loop-batch.parts.items order c.args.weight c.requires
    (c.loop-batch.invariant.are ∙ take_all c.loop-batch.batch-index c.args.batches.now c.loop-batch-test.false) c.loop-batch.invariant.weights
    (omega (arith, low, c.args.given.now.as_many))

pub returns-clause-cost : goal.returns-clause-cost
returns-clause-cost c =
    batching_priced c.args.given.now.wave.now c.args.given.now.pairs.now c.args.batches.now c.loop-batch.parts.items c.args.weight
    (c.loop-batch.invariant.are ∙ take_all c.loop-batch.batch-index c.args.batches.now c.loop-batch-test.false) c.loop-batch.invariant.weights
    c.loop-batch.invariant.each

pub returns-clause-small : goal.returns-clause-small
returns-clause-small c = λ most.
    let few : length c.loop-batch.parts.items < 2 ^ 64 = search rules in
    batching_cost c.loop-batch.parts.items c.args.weight most c.loop-batch.invariant.weights c.loop-batch.invariant.small few
