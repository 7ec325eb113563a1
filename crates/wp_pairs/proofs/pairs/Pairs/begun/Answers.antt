use Rattle.std.proofs.Common.{refl}
use Rattle.wp_pairs.proofs.KeptPairs.{nothing_kept}
use Rattle.wp_pairs.proofs.pairs.Pairs.begun.Goals as goal

pub invariant_of-result : goal.invariant_of-result
invariant_of-result c =
    let r = c.requires in (
      refl,
      rw c.empty_rows.ensures
          (nothing_kept _ _ _ _ r.some_orders r.most_orders r.some_capacity r.most_capacity r.cart c.single_rows.ensures.each),
    )
