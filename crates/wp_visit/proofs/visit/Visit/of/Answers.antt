use Rattle.std.proofs.Common.{◌≡◌, ◌+◌, ◌-◌, ◌∙◌, ℕ, List, arith, subst, sym}
use Rattle.std.specs.Prelude.{slice_index_or}
use Rattle.wp_visit.specs.Items.{AreReachesBelow}
use Rattle.wp_visit.proofs.visit.Visit.of.Goals as goal

pub invariant_of-result : goal.invariant_of-result
invariant_of-result c =
    let pairing = c.args.paired.now.pairs.now in
    let place = c.orders.result in
    let from : pairing.orders - place ≡ 0 = omega (arith, c.orders.ensures.value) in record {
      orders = c.args.paired.now.as_many;
      cart = c.args.paired.now.same_cart;
      count = c.requires.count ∙ sym c.args.paired.now.as_many;
      duals = c.requires.bounded;
      valid = c.in_ok-items.ensures.valid;
      filled = c.in_ok-items.ensures.count;
      each = c.in_ok-items.ensures.items;
      whole = subst (λ (reaches : List ℕ). AreReachesBelow pairing c.args.duals.now 0 (pairing.capacity + 1) reaches) (sym c.index-reaches.ensures)
          (subst (λ (start : ℕ). AreReachesBelow pairing c.args.duals.now start (pairing.capacity + 1)
          (slice_index_or c.in_ok-all.all.items place c.index-reaches.result.now)) from
          (c.in_ok-all.ensures.reaches place c.index-reaches.result.now
          (omega (arith, c.orders.ensures.value, c.in_ok-all.ensures.count))));
    }
