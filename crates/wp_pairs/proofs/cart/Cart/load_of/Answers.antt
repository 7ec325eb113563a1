use Rattle.std.proofs.Common.{ap, arith, sym, ◌∙◌, length}
use Rattle.std.specs.Prelude.{slice_index}
use Rattle.std.proofs.lemmas.Bool.{both_ways}
use Rattle.std.proofs.lemmas.Option.{get_or_from_slice_get}
use Rattle.wp_pairs.specs.Carts.{LoadedCart}
use Rattle.wp_pairs.proofs.SumsUnder.{under_none, under_rest, under_with, under_without}
use Rattle.wp_pairs.proofs.LoadWords.{no_load}
use Rattle.wp_pairs.proofs.cart.Cart.load_of.Goals as goal
use Rattle.wp_pairs.proofs.cart.Cart.load_of.Goals.{then-has, else-has}

pub loop-order-init : goal.loop-order-init
loop-order-init c = record { under = sym (under_none _ c.args.batch); small = omega arith }

pub loop-order-preserved : goal.loop-order-preserved
loop-order-preserved c = elim c.if-has.branch [
  | then-has w ↦
      let more = under_with (slice_index c.args.self.now.loads) c.loop-order.order c.args.batch c.has.ensures.valid.ascending
      (c.has.ensures.exact.0 w.if-has.true) in
      let loads = ap (λ (cart : LoadedCart). cart.loads) c.self.view_is in
      let at = get_or_from_slice_get c.args.self.now.loads c.loop-order.order w.at.result 0 (rw loads at w.at.ensures) in
      record {
        under = omega (arith, w.total-is, w.from-total.ensures, c.loop-order.invariant.under, more, at);
        small = omega (arith, w.total-is, w.from-total.ensures, c.loop-order.invariant.small);
      }
  | else-has w ↦ rw w.total-is (record {
    under = c.loop-order.invariant.under
        ∙ sym (under_without _ _ c.args.batch (λ h. both_ways c.has.result w.if-has.false (c.has.ensures.exact.1 h)));
    small = omega (arith, c.loop-order.invariant.small);
  })
]

pub returns-clause-is : goal.returns-clause-is
returns-clause-is c =
    let loads = ap (λ (cart : LoadedCart). length cart.loads) c.self.view_is in
    c.loop-order.invariant.under
    ∙ under_rest (slice_index c.args.self.now.loads) c.loop-order.order c.args.batch
    (λ order high. no_load c.args.self.now.loads order (omega (arith, high, loads, c.loop-order-test.false, c.len-order-end.ensures.count)))

pub returns-clause-small : goal.returns-clause-small
returns-clause-small c = omega (arith, c.loop-order.invariant.small, c.len-order-end.ensures.few)
