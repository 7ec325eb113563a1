use Rattle.std.proofs.Common.{◌<◌, ℕ, List, arith, length, subst, ⊎_elim}
use Rattle.std.proofs.lemmas.List.Elements.{All-contains}
use Rattle.wp_lengths.specs.Lengths.{IsLengthOf}
use Rattle.wp_batch.proofs.Costs.{replaced_cost_no_more}
use Rattle.wp_batch.proofs.Gains.{batch_read, batching_is_known, known_read}
use Rattle.wp_batch.proofs.Splits.{can_replace}
use Rattle.wp_lengths.proofs.Unions.{all_from_contained}
use Rattle.wp_batch.proofs.improve.improve_pair.Goals as goal

pub cheaper_split-requires : goal.cheaper_split-requires
cheaper_split-requires c =
    let wave = c.args.instance.now.wave.now in
    let batches = c.args.batches.now.items in
    let known = batching_is_known wave c.args.instance.now.capacity batches c.requires.batching in
    let one = known_read wave batches c.args.left c.index-one.result.now known (omega (arith, c.requires.order, c.requires.within)) c.index-one.ensures in
    let other = known_read wave batches c.args.right c.index-other.result.now known c.requires.within c.index-other.ensures in
    all_from_contained (λ (order : ℕ). order < length wave.orders) c.union.result
    (λ order has. ⊎_elim (λ l. All-contains (λ (o : ℕ). o < length wave.orders) c.index-one.result.now order one l)
    (λ r. All-contains (λ (o : ℕ). o < length wave.orders) c.index-other.result.now order other r) ((c.union.ensures.orders order).0 has))

pub replace-requires-clause-split : goal.replace-requires-clause-split
replace-requires-clause-split c =
    can_replace c.args.instance.now.wave.now c.args.instance.now.capacity c.args.batches.now.items c.args.left c.args.right c.index-one.result.now
    c.index-other.result.now c.union.result
    c.in-Some.split c.requires.order c.requires.within c.index-one.ensures c.index-other.ensures c.union.ensures.orders c.in-Some.ensures.split

pub returns-in-Some-clause-no_dearer : goal.returns-in-Some-clause-no_dearer
returns-in-Some-clause-no_dearer c =
    let wave = c.args.instance.now.wave.now in
    let batches = c.args.batches.now.items in
    let one = batch_read batches c.args.left c.index-one.result.now (omega (arith, c.requires.order, c.requires.within)) c.index-one.ensures in
    let other = batch_read batches c.args.right c.index-other.result.now c.requires.within c.index-other.ensures in
    rw c.replace.ensures.items (replaced_cost_no_more wave batches c.args.left c.args.right c.in-Some.split.left c.in-Some.split.right
    c.batch_length.result c.batch_length-2.result c.in-Some.split.total c.requires.order c.requires.within
    (subst (λ (b : List ℕ). IsLengthOf wave b c.batch_length.result) one c.batch_length.ensures.is)
    (subst (λ (b : List ℕ). IsLengthOf wave b c.batch_length-2.result) other c.batch_length-2.ensures.is)
    c.in-Some.ensures.total (omega (arith, c.in-Some.ensures.less, c.saturating_add-most.ensures)))
