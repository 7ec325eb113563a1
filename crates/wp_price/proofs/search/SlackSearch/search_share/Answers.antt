use Rattle.std.proofs.Common.{◌≡◌, ◌≢◌, ◌+◌, ◌<◌, ℕ, arith, inl, inr, subst, ⊎_elim, Contains}
use Rattle.std.proofs.lemmas.Bool.{both_ways, cases_eq}
use Rattle.wp_price.specs.Searches.{InShare}
use Rattle.wp_price.proofs.Searching.{fewer_items, then_item}
use Rattle.wp_price.proofs.search.SlackSearch.search_share.Goals as goal
use Rattle.wp_price.proofs.search.SlackSearch.search_share.Goals.{then-has, else-has}

pub loop-order-preserved : goal.loop-order-preserved
loop-order-preserved g c = elim c.if-has.branch [
  | then-has w ↦ rw w.found-is (then_item c.args.self.now c.args.place.now.batch
      (λ (item : ℕ). (item < c.loop-order.order) × Contains c.args.worker.now.share item)
      (λ (item : ℕ). (item < c.loop-order.order + 1) × Contains c.args.worker.now.share item) c.loop-order.order c.args.best c.loop-order.found
      w.search_item-found.result (λ item among. ⊎_elim (λ (same : item ≡ c.loop-order.order). inr same)
      (λ (apart : item ≢ c.loop-order.order). inl (omega (arith, among.0, apart), among.1)) (cases_eq item c.loop-order.order))
      c.loop-order.invariant w.search_item-found.ensures)
  | else-has w ↦ rw w.found-is (fewer_items c.args.self.now c.args.place.now.batch
      (λ (item : ℕ). (item < c.loop-order.order) × Contains c.args.worker.now.share item)
      (λ (item : ℕ). (item < c.loop-order.order + 1) × Contains c.args.worker.now.share item) c.args.best c.loop-order.found
      (λ item among. ⊎_elim
      (λ (same : item ≡ c.loop-order.order).
      absurd (both_ways c.has.result w.if-has.false (c.has.ensures.exact.1 (subst (Contains c.args.worker.now.share) same among.1))))
      (λ (apart : item ≢ c.loop-order.order). (omega (arith, among.0, apart), among.1)) (cases_eq item c.loop-order.order)) c.loop-order.invariant)
]

pub returns : goal.returns
returns g c = fewer_items c.args.self.now c.args.place.now.batch (λ (item : ℕ). (item < c.loop-order.order) × Contains c.args.worker.now.share item)
    (InShare c.args.self.now c.args.worker.now.share) c.args.best c.loop-order.found
    (λ item among. (omega (arith, among.0, c.loop-order-test.false, c.orders-order-end.ensures.value), among.1)) c.loop-order.invariant
