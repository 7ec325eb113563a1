use Rattle.wp_batch.proofs.Costs.{join_costs_no_more}
use Rattle.wp_batch.proofs.Gains.{union_length}
use Rattle.wp_batch.proofs.Joining.{IsJoin, join_is_batching, join_is_listed, joins_read}
use Rattle.wp_batch.proofs.merge.join_batches.Goals as goal
use Rattle.wp_batch.proofs.merge.join_batches.Goals.{After-remove}

joins : (c : After-remove) → IsJoin c.args.instance.now.wave.now c.args.instance.now.capacity c.args.batches.now.items c.args.join.left c.args.join.right
    c.union-union.result
joins c = joins_read _ _ _ _ _ _ _ _ c.requires.batching c.requires.listed c.requires.join.order c.requires.join.within c.requires.join.fits
    c.index.ensures c.index-2.ensures c.union-union.ensures.valid c.union-union.ensures.orders c.union-union.ensures.count

pub returns-clause-batching : goal.returns-clause-batching
returns-clause-batching c = rw c.remove.ensures.items (join_is_batching _ _ _ _ _ _ (joins c))

pub returns-clause-listed : goal.returns-clause-listed
returns-clause-listed c = rw c.remove.ensures.items (join_is_listed _ _ _ _ _ _ (joins c))

pub returns-clause-joined : goal.returns-clause-joined
returns-clause-joined c = record { union = c.union-union.result; of_both = (joins c).of_both; is = c.remove.ensures.items }

pub returns-clause-no_dearer : goal.returns-clause-no_dearer
returns-clause-no_dearer c = rw c.remove.ensures.items
    (join_costs_no_more c.args.instance.now.wave.now _ _ _ _ c.requires.join.order c.requires.join.within _ c.requires.join.saves
    (union_length c.args.instance.now.wave.now _ _ _ _ (joins c).of_both c.requires.join.saves.of_both))
