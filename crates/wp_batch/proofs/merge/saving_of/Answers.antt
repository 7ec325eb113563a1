use Rattle.std.proofs.Common.{◌<◌, ℕ, length, ⊎_elim}
use Rattle.std.proofs.lemmas.List.Elements.{All-contains}
use Rattle.wp_batch.proofs.Gains.{both_length, saves_at_most}
use Rattle.wp_lengths.proofs.Unions.{all_from_contained}
use Rattle.wp_batch.proofs.merge.saving_of.Goals as goal

pub batch_length-requires : goal.batch_length-requires
batch_length-requires c = all_from_contained (λ (order : ℕ). order < length c.args.instance.now.wave.now.orders) c.union.result
    (λ order has. ⊎_elim (λ l. All-contains (λ (o : ℕ). o < length c.args.instance.now.wave.now.orders) c.args.left order c.requires.left l)
    (λ r. All-contains (λ (o : ℕ). o < length c.args.instance.now.wave.now.orders) c.args.right order c.requires.right r)
    ((c.union.ensures.orders order).0 has))

pub returns-clause-most : goal.returns-clause-most
returns-clause-most c = saves_at_most c.args.instance.now.wave.now _ _ _ c.union.result _ _ _ c.union.ensures.orders c.batch_length-one.ensures.is
    c.batch_length-other.ensures.is
    c.batch_length.ensures.is _ c.saved.ensures.most

pub returns-clause-saves : goal.returns-clause-saves
returns-clause-saves c = λ some. record {
  one = c.batch_length-one.result;
  other = c.batch_length-other.result;
  both = c.batch_length.result;
  of_left = c.batch_length-one.ensures.is;
  of_right = c.batch_length-other.ensures.is;
  of_both = both_length c.args.instance.now.wave.now _ _ c.union.result _ c.union.ensures.orders c.batch_length.ensures.is;
  sum = c.saved.ensures.some some;
}
