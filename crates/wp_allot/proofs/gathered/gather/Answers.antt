use Rattle.std.proofs.Common.{◌≡◌, rules}
use Rattle.std.proofs.lemmas.List.Sorted.{answers_always}
use Rattle.wp_allot.proofs.SingleWants.{are_gathered}
use Rattle.wp_allot.specs.declared.want.Want.{Want}
use Rattle.wp_allot.proofs.gathered.gather.Goals as goal

pub returns-clause-gathered : goal.returns-clause-gathered
returns-clause-gathered c =
    are_gathered c.args.wants.now c.sort_unstable_by_key.new.self c.requires c.sort_unstable_by_key.ensures.permutation
    (c.sort_unstable_by_key.ensures.sorted (λ (want : Want). (want.article, want.order))
    (answers_always _ (λ a r. r ≡ (a.0.now.article, a.0.now.order)) _ (λ f a r q k. search rules)))
