use Rattle.std.proofs.Common.{arith, refl}
use Rattle.std.proofs.lemmas.Bool.{both_ways}
use Rattle.wp_pairs.proofs.RowChanges.{one_more_kept, one_more_widened}
use Rattle.wp_pairs.proofs.rows.widen_rows.Goals as goal
use Rattle.wp_pairs.proofs.rows.widen_rows.Goals.{then-has, else-has}

pub loop-order-init : goal.loop-order-init
loop-order-init c = record {
  whole = c.told-rows;
  there = λ order other low has. absurd (omega arith);
  elsewhere = λ order low none. refl;
  above = λ order high. refl;
}

pub loop-order-preserved : goal.loop-order-preserved
loop-order-preserved c = elim c.if-has.branch [
  | then-has w ↦ rw w.rows-is
      (one_more_widened _ _ _ _ _ _ _ c.loop-order.invariant c.loop-order-test.true (c.has.ensures.exact.0 w.if-has.true)
      w.orders_for.ensures w.union.ensures.orders)
  | else-has w ↦ rw w.rows-is (one_more_kept _ _ _ _ _ c.loop-order.invariant (λ h. both_ways c.has.result w.if-has.false (c.has.ensures.exact.1 h)))
]

pub returns-clause-there : goal.returns-clause-there
returns-clause-there c = λ order other within has. c.loop-order.invariant.there order other (omega arith) has

pub returns-clause-elsewhere : goal.returns-clause-elsewhere
returns-clause-elsewhere c = λ order within none. c.loop-order.invariant.elsewhere order (omega arith) none
