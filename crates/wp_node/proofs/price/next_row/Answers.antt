use Rattle.std.proofs.Common.{◌-◌, ℕ, arith}
use Rattle.std.proofs.Math.ListN.{length-set}
use Rattle.wp_node.proofs.Rows.{entry_small, row_begins, row_goes_on}
use Rattle.wp_node.proofs.price.next_row.Goals as goal

pub loop-taken-init : goal.loop-taken-init
loop-taken-init c = record { count = c.first_row-next.ensures.count; each = row_begins c.args.things _ c.first_row-next.ensures }

pub overflow_add-next : goal.overflow_add-next
overflow_add-next c =
    let taken = c.loop-taken.taken in
    let one = c.requires.row.each (taken - 1) (omega (arith, c.loop-taken-test.true)) in
    let other = c.requires.row.each taken (omega (arith, c.loop-taken-test.true)) in
    let few = c.requires.few in
    omega (arith, one, other, entry_small c.args.things (taken - 1) (omega (arith, few)), entry_small c.args.things taken (omega (arith, few)))

pub loop-taken-preserved : goal.loop-taken-preserved
loop-taken-preserved c = record {
  count = omega (arith, length-set {A = ℕ}, c.loop-taken.invariant.count);
  each = row_goes_on c.args.things c.args.row.now c.loop-taken.next c.loop-taken.taken c.requires.row c.loop-taken.invariant.count
      (omega (arith, c.loop-taken.auto.taken)) (omega (arith, c.loop-taken-test.true)) c.loop-taken.invariant.each;
}
