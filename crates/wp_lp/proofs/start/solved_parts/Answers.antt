use Rattle.std.proofs.Common.{[], arith}
use Rattle.std.proofs.lemmas.List.Elements.{All-nil, All-push, All-same}
use Rattle.wp_master.specs.Pairs.{sum_of}
use Rattle.wp_lp.specs.Parts.{IsWeightedBatch}
use Rattle.wp_lp.proofs.Starts.{IsPartOf, cost_begins, cost_ends, cost_more, enough_begins, enough_ends, enough_more, part_of_column}
use Rattle.wp_lp.proofs.start.solved_parts.Goals as goal

pub loop-column-init : goal.loop-column-init
loop-column-init c = record {
  enough = λ order low. enough_begins c.args.pool.now c.args.pair.now.weights.items c.args.pair.now.denominator order _ c.new-parts.ensures.items;
  cost = cost_begins c.args.pool.now c.args.pair.now.weights.items _ c.new-parts.ensures.items;
  each = λ wave pairing is. All-same (IsWeightedBatch wave pairing) _ [] c.new-parts.ensures.items (All-nil (IsWeightedBatch wave pairing));
}

pub loop-column-preserved : goal.loop-column-preserved
loop-column-preserved c =
    let before = c.loop-column.invariant in
    let items = c.in_ok-push.ensures.items in
    let of : IsPartOf c.args.pool.now c.args.pair.now.weights.items c.args.pair.now.denominator c.loop-column.column c.start_part.result = record {
      batch = c.start_part.ensures.batch;
      long = c.start_part.ensures.length;
      weight = c.start_part.ensures.weight;
    } in record {
      enough = λ order low. enough_more _ _ _ order _ _ _ _ of items (before.enough order low);
      cost = cost_more _ _ _ _ _ _ _ of items before.cost;
      each = λ wave pairing is. All-same (IsWeightedBatch wave pairing) _ _ items (All-push (IsWeightedBatch wave pairing) _ _ (before.each wave pairing is)
          (part_of_column wave pairing _ _ _ _ _ of (omega (arith, c.loop-column-test.true, c.len-column-end.ensures.value)) is));
    }

pub returns-clause-enough : goal.returns-clause-enough
returns-clause-enough c = λ order low. enough_ends c.args.pool.now c.args.pair.now.weights.items c.args.pair.now.denominator order c.loop-column.column
    c.loop-column.parts.items
    (omega (arith, c.loop-column-test.false, c.loop-column.auto.column-end, c.len-column-end.ensures.value)) (c.requires.answer.cover order low)
    (c.loop-column.invariant.enough order low)

pub returns-clause-cost : goal.returns-clause-cost
returns-clause-cost c = cost_ends c.args.pool.now c.args.pair.now.weights.items
    (sum_of c.args.pool.now c.args.pair.now.duals.items) c.loop-column.column c.loop-column.parts.items
    (omega (arith, c.loop-column-test.false, c.loop-column.auto.column-end, c.len-column-end.ensures.value)) c.requires.answer.equal
    c.loop-column.invariant.cost
