use Rattle.std.proofs.Common.{arith}
use Rattle.wp_cuts.proofs.KeptParts.{batch_few, both_few, counted_both}
use Rattle.wp_cuts.proofs.cut.count_both.Goals as goal

pub overflow_add-result : goal.overflow_add-result
overflow_add-result c = omega (
  arith,
  c.len.ensures.count,
  c.len-2.ensures.count,
  batch_few c.args.left c.len.ensures.valid,
  batch_few c.args.right c.len-2.ensures.valid,
)

pub returns-clause-is : goal.returns-clause-is
returns-clause-is c = λ f one none.
    let both = counted_both f c.args.left c.args.right c.union.result c.len.ensures.valid.ascending c.len-2.ensures.valid.ascending
    c.union.ensures.valid.ascending c.union.ensures.orders one none in
    omega (arith, both, c.len.ensures.count, c.len-2.ensures.count, c.len-3.ensures.count)

pub returns-clause-few : goal.returns-clause-few
returns-clause-few c =
    let more = both_few c.args.left c.args.right c.union.result c.len-2.ensures.valid.ascending c.union.ensures.valid.ascending c.union.ensures.orders in
    omega (arith, more, batch_few c.args.left c.len.ensures.valid, c.len.ensures.count, c.len-2.ensures.count, c.len-3.ensures.count)
