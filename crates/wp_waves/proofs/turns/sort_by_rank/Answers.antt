use Rattle.std.proofs.Common.{rules}
use Rattle.std.proofs.lemmas.List.Sorted.{IsNonDecreasingBy-from_sort, answers_always}
use Rattle.wp_waves.specs.Turns.{rank_of}
use Rattle.wp_waves.proofs.turns.sort_by_rank.Goals as goal

pub returns : goal.returns
returns c = record {
  same = c.sort_by_key.ensures.permutation;
  ascending = IsNonDecreasingBy-from_sort rank_of _
      (c.in_ok-sort_by_key.ensures.sorted rank_of (answers_always _ _ _ (λ f a r g called. search rules)));
  as_they_stood = c.sort_by_key.ensures.stable rank_of (answers_always _ _ _ (λ f a r g called. search rules));
}
