use Rattle.std.proofs.Common.{List, [], ℕ, subst, sym, ◌∙◌}
use Rattle.std.proofs.lemmas.List.{get_or_default, take_all}
use Rattle.wp_pairs.specs.Permitted.{IsPermitted}
use Rattle.wp_lp.proofs.Pools.{IsPoolSoFar, one_more_column, run_begins, taken_more}
use Rattle.wp_lp.proofs.start.start_pool.Goals as goal

pub loop-batch-preserved : goal.loop-batch-preserved
loop-batch-preserved c =
    let taken = taken_more c.args.batches.now c.loop-batch.batch-index c.batch-item.result c.loop-batch-test.true c.batch-item.is in
    let permitted = subst (IsPermitted c.args.given.now.pairs.now)
    (get_or_default c.args.batches.now c.loop-batch.batch-index [] c.batch-item.result c.loop-batch-test.true ∙ sym c.batch-item.is)
    (c.requires.each c.loop-batch.batch-index c.loop-batch-test.true) in
    subst (λ (xs : List (List ℕ)). IsPoolSoFar c.args.given.now.wave.now c.args.given.now.pairs.now xs c.add.new.self) (sym taken)
    (one_more_column c.args.given.now.wave.now c.args.given.now.pairs.now _ c.batch-item.result c.batch_length.result c.loop-batch.pool c.add.new.self
    c.loop-batch.invariant permitted c.batch_length.ensures.is c.batch_length.ensures.small c.in_ok-add.ensures.added)

pub returns : goal.returns
returns c = run_begins c.args.given.now.wave.now c.args.given.now.pairs.now c.args.batches.now _ c.loop-batch.pool c.requires
    (take_all c.loop-batch.batch-index c.args.batches.now c.loop-batch-test.false) c.loop-batch.invariant
