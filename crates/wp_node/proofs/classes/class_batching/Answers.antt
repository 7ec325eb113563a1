use Rattle.std.proofs.Common.{◌≡◌, ℕ, arith, subst, sym, ◌∙◌}
use Rattle.wp_node.proofs.ClassBatchings.{AreClassesBelow, IsClass, class_listed, class_passed, classes_are_batching, classes_cost, found_first, other_first}
use Rattle.wp_node.proofs.classes.class_batching.Goals as goal
use Rattle.wp_node.proofs.classes.class_batching.Goals.{then-eq+in_ok-push, else-eq}

pub loop-order-preserved : goal.loop-order-preserved
loop-order-preserved c =
    let pairing = c.args.given.now.pairs.now in
    let order = c.loop-order.order in
    let class = c.joined_to-class.result in
    let is : IsClass pairing order class = record { is = c.least.ensures.valid; joined = c.joined_to-class.ensures } in
    elim c.if-eq.branch [
      | then-eq+in_ok-push w ↦
          rw (w.batches-is, w.in_ok-push.ensures.items) (class_listed pairing c.loop-order.batches.items order class c.loop-order.invariant is
          (sym c.least.ensures.first ∙ found_first c.least.result order (sym c.eq.ensures ∙ w.if-eq.true)))
      | else-eq w ↦
          rw w.batches-is (class_passed pairing c.loop-order.batches.items order class c.loop-order.invariant is
          (λ first. other_first c.least.result order (sym c.eq.ensures ∙ w.if-eq.false) (c.least.ensures.first ∙ first)))
    ]

pub of-requires : goal.of-requires
of-requires c = omega (arith, c.loop-order.invariant.few, c.loop-order.auto.order-end)

pub returns : goal.returns
returns c =
    let wave = c.args.given.now.wave.now in
    let pairing = c.args.given.now.pairs.now in
    let batches = c.loop-order.batches.items in
    let duals = c.args.given.now.duals.now in
    let all : c.loop-order.order ≡ pairing.orders = omega (arith, c.loop-order-test.false, c.loop-order.auto.order-end, c.orders-order-end.ensures.value) in
    let are = subst (λ (count : ℕ). AreClassesBelow pairing batches count) all c.loop-order.invariant in
    rw c.of.ensures (record {
      batching = classes_are_batching wave pairing duals c.args.given.now.as_many c.args.given.now.same_cart c.requires.decided c.requires.tight batches are;
      listed = are.listed;
      cost = classes_cost wave pairing duals c.args.given.now.as_many c.args.given.now.same_cart c.requires.decided c.requires.tight batches are
          c.args.given.now.count;
    })
