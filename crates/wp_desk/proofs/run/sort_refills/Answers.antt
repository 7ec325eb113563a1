use Rattle.std.proofs.Common.{rules}
use Rattle.std.proofs.lemmas.List.Sorted.{IsNonDecreasingBy-from_sort_by_key, IsPermutation-trans}
use Rattle.wp_desk.proofs.Rising.{refills_rise, sorted_is}
use Rattle.wp_desk.specs.GoingOn.{refills_after}
use Rattle.wp_machine.specs.declared.outcome.Refill.{Refill}
use Rattle.wp_desk.proofs.run.sort_refills.Goals as goal

pub returns : goal.returns
returns c start entries told =
    let after = c.sort_unstable_by_key.new.self.items in
    sorted_is (λ (r : Refill). r.number) (refills_after start entries) after (refills_rise start entries)
    (IsPermutation-trans (refills_after start entries) c.args.refills.now.items after told c.sort_unstable_by_key.ensures.permutation)
    (IsNonDecreasingBy-from_sort_by_key (λ r. r.number) _ c.sort_unstable_by_key.ensures.sorted (λ a r q k. search rules))
