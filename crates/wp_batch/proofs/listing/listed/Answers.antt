use Rattle.std.proofs.Common.{◌≡◌, ℕ, arith, length, subst}
use Rattle.wp_batch.proofs.Costs.{listed_costs_no_more}
use Rattle.wp_batch.proofs.Listings.{AreListedBelow, all_listed, among, listed_is_batching, none_listed, nothing_listed, one_more_listed}
use Rattle.wp_batch.proofs.listing.listed.Goals as goal
use Rattle.wp_batch.proofs.listing.listed.Goals.{in-Some+in_ok-push, in_default}

pub loop-order-init : goal.loop-order-init
loop-order-init c = nothing_listed _ _ _ c.requires.batching _ c.new-listed.ensures.items

pub loop-order-preserved : goal.loop-order-preserved
loop-order-preserved c = elim c.match-place_of.branch [
  | in-Some+in_ok-push w ↦ rw (w.listed-is, w.in_ok-push.ensures.items)
      (one_more_listed _ _ _ c.requires.batching _ _ _ _ c.loop-order.invariant w.in-Some.ensures.within w.in-Some.ensures.least w.index-batches-place.is)
  | in_default w ↦ rw w.listed-is (none_listed _ _ _ c.requires.batching _ _ c.loop-order.invariant w.in_default.ensures.none)
]

pub returns-clause-batching : goal.returns-clause-batching
returns-clause-batching c =
    let all : c.loop-order.order ≡ length c.args.instance.now.wave.now.orders = omega (arith, c.orders-order-end.ensures.value) in
    listed_is_batching _ _ _ c.requires.batching _
    (subst (λ (n : ℕ). AreListedBelow c.args.batches.now c.loop-order.listed.items n) all c.loop-order.invariant)

pub returns-clause-no_dearer : goal.returns-clause-no_dearer
returns-clause-no_dearer c =
    let all : c.loop-order.order ≡ length c.args.instance.now.wave.now.orders = omega (arith, c.orders-order-end.ensures.value) in
    let end = subst (λ (n : ℕ). AreListedBelow c.args.batches.now c.loop-order.listed.items n) all c.loop-order.invariant in
    listed_costs_no_more c.args.instance.now.wave.now _ _ (among _ _ _ c.requires.batching _ _ end) (all_listed _ _ _ c.requires.batching _ end) end.ascend

pub returns-clause-few : goal.returns-clause-few
returns-clause-few c = omega (arith, c.loop-order.invariant.few, c.orders-order-end.ensures.value, c.orders-order-end.ensures.valid.most)
