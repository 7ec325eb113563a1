use Rattle.wp_batch.proofs.merge.savings.Goals as goal

pub returns-clause-savings : goal.returns-clause-savings
returns-clause-savings c = record {
  alone = c.in_ok-batches.batches.items;
  are_alone = c.in_ok-batches.ensures.alone;
  merged = c.merge.ensures.merged;
  joined = c.merge.ensures.joined;
}
