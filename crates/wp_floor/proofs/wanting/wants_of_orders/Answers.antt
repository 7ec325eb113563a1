use Rattle.std.proofs.Common.{◌≡◌, sym, subst, length, List, arith}
use Rattle.std.proofs.lemmas.List.{with_items_is}
use Rattle.std.proofs.lemmas.List.Sorted.{length_permutation}
use Rattle.std.specs.List.Sorted.{IsPermutation}
use Rattle.wp_allot.specs.declared.want.Want.{Want}
use Rattle.wp_floor.specs.Floor.{AreWantsOf}
use Rattle.wp_floor.proofs.WaveWants.{are_gathered}
use Rattle.wp_floor.proofs.wanting.wants_of_orders.Goals as goal

pub returns : goal.returns
returns c = λ orders are.
    let wants = c.gather.new.wants in
    let long : length wants ≡ c.in_ok-wants.wants.len = omega
    (arith, length_permutation c.deref_mut.result.now wants c.gather.ensures.same, c.deref_mut.ensures.len) in
    subst (AreWantsOf c.args.opening.now orders) (sym (with_items_is c.in_ok-wants.wants wants long))
    (are_gathered c.args.opening.now orders c.in_ok-wants.wants.items wants (c.in_ok-wants.ensures orders are)
    (subst (λ (old : List Want). IsPermutation old wants) c.deref_mut.ensures.value c.gather.ensures.same) c.gather.ensures.gathered)
