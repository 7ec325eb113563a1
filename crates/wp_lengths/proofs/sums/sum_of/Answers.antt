use Rattle.std.proofs.Common.{ℕ, arith, sym, ◌∙◌, ◌<◌, length}
use Rattle.std.specs.Prelude.{slice_index}
use Rattle.std.proofs.lemmas.Bool.{both_ways}
use Rattle.std.proofs.lemmas.List.Elements.{All-contains}
use Rattle.wp_pairs.proofs.SumsUnder.{under_all, under_none, under_with, under_without}
use Rattle.wp_lengths.proofs.sums.sum_of.Goals as goal
use Rattle.wp_lengths.proofs.sums.sum_of.Goals.{else-has, then-has}

pub loop-order-init : goal.loop-order-init
loop-order-init c = record { under = sym (under_none _ c.args.batch); small = omega arith }

pub loop-order-preserved : goal.loop-order-preserved
loop-order-preserved c = elim c.if-has.branch [
  | then-has w ↦
      let more = under_with (slice_index c.args.duals.now) c.loop-order.order c.args.batch c.has.ensures.valid.ascending
      (c.has.ensures.exact.0 w.if-has.true) in
      record {
        under = omega (arith, w.total-is, w.from-total.ensures, c.loop-order.invariant.under, more);
        small = omega (arith, w.total-is, w.from-total.ensures, c.loop-order.invariant.small);
      }
  | else-has w ↦ rw w.total-is (record {
    under = c.loop-order.invariant.under
        ∙ sym (under_without _ _ c.args.batch (λ h. both_ways c.has.result w.if-has.false (c.has.ensures.exact.1 h)));
    small = omega (arith, c.loop-order.invariant.small);
  })
]

pub returns : goal.returns
returns c =
    let all = under_all (slice_index c.args.duals.now) c.loop-order.order c.args.batch (λ x has.
    let low = All-contains (λ (o : ℕ). o < length c.args.duals.now) c.args.batch x c.requires.known has in
    let below = All-contains (λ (o : ℕ). o < 64) c.args.batch x c.len.ensures.valid.below has in
    omega (arith, low, below, c.loop-order-test.false, c.min-order-end.ensures)) in
    c.loop-order.invariant.under ∙ all
