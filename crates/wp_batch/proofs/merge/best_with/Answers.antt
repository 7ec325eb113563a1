use Rattle.std.proofs.Common.{List, ℕ, arith, refl, subst}
use Rattle.wp_batch.specs.declared.merge.Join.{Join}
use Rattle.wp_batch.specs.Joins.{FitInOne, JoinSaves, SavesAtMost}
use Rattle.wp_lengths.specs.Batchings.{batch_at}
use Rattle.wp_batch.proofs.Gains.{batch_read, known_read, one_more_before}
use Rattle.wp_batch.proofs.merge.best_with.Goals as goal

pub saving_of-saving-requires-clause-left : goal.saving_of-saving-requires-clause-left
saving_of-saving-requires-clause-left c =
    known_read c.args.instance.now.wave.now _ _ _ c.requires.known (omega (arith, c.requires.within, c.loop-left-test.true)) c.index-batches-left.is

pub saving_of-saving-requires-clause-right : goal.saving_of-saving-requires-clause-right
saving_of-saving-requires-clause-right c = known_read c.args.instance.now.wave.now _ _ _ c.requires.known c.requires.within c.index-batches-right.is

pub loop-left-preserved : goal.loop-left-preserved
loop-left-preserved c =
    let batches = c.args.batches.now in
    let l = batch_read batches c.loop-left.left c.index-batches-left.result (omega (arith, c.requires.within, c.loop-left-test.true)) c.index-batches-left.is in
    let r = batch_read batches c.args.right c.index-batches-right.result c.requires.within c.index-batches-right.is in
    let found : Join = record { left = c.loop-left.left; right = c.args.right; saving = c.saving_of-saving.result } in
    one_more_before _ _ _ _ _ c.loop-left.best found _ c.loop-left.invariant refl refl c.loop-left-test.true c.requires.within
    (λ some. subst (λ (xs : List ℕ). FitInOne c.args.instance.now.wave.now c.args.instance.now.capacity xs (batch_at batches c.args.right)) l
    (subst (λ (ys : List ℕ). FitInOne c.args.instance.now.wave.now c.args.instance.now.capacity c.index-batches-left.result ys) r
    (c.saving_of-saving.ensures.fits some)))
    (subst (λ (xs : List ℕ). SavesAtMost c.args.instance.now.wave.now c.args.instance.now.capacity xs (batch_at batches c.args.right) c.saving_of-saving.result)
    l
    (subst (λ (ys : List ℕ). SavesAtMost c.args.instance.now.wave.now c.args.instance.now.capacity c.index-batches-left.result ys c.saving_of-saving.result) r
    c.saving_of-saving.ensures.most))
    (λ some. subst (λ (xs : List ℕ). JoinSaves c.args.instance.now.wave.now xs (batch_at batches c.args.right) c.saving_of-saving.result) l
    (subst (λ (ys : List ℕ). JoinSaves c.args.instance.now.wave.now c.index-batches-left.result ys c.saving_of-saving.result) r
    (c.saving_of-saving.ensures.saves some)))
    c.better_of-best.ensures.either c.better_of-best.ensures.first c.better_of-best.ensures.second

pub returns : goal.returns
returns c = record {
  can = c.loop-left.invariant.can;
  most = λ left low. c.loop-left.invariant.most left (omega (arith, c.loop-left-test.false));
}
