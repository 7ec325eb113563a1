use Rattle.std.proofs.Common.{arith, ap, ◌∙◌, length, List, ℕ, []}
use Rattle.std.proofs.lemmas.List.{length-replicate}
use Rattle.wp_pairs.proofs.RowChanges.{one_more_single}
use Rattle.wp_pairs.proofs.rows.single_rows.Goals as goal

pub loop-order-init : goal.loop-order-init
loop-order-init c = record {
  whole = ap (λ (rows : List (List ℕ)). length rows) c.empty_rows-rows.ensures ∙ length-replicate {A = List ℕ} 64 [];
  each = λ order other low. absurd (omega arith);
}

pub loop-order-preserved : goal.loop-order-preserved
loop-order-preserved c = one_more_single _ _ _ _ c.loop-order.invariant c.loop-order-test.true c.empty.ensures c.with.ensures.orders

pub returns-clause-whole : goal.returns-clause-whole
returns-clause-whole c = c.loop-order.invariant.whole

pub returns-clause-each : goal.returns-clause-each
returns-clause-each c = λ order other within. c.loop-order.invariant.each order other (omega arith)
