use Rattle.std.proofs.Common.{arith}
use Rattle.wp_node.specs.Prices.{choose}
use Rattle.wp_node.proofs.Rows.{entry_small, more_below}
use Rattle.wp_node.proofs.price.sets_of.Goals as goal

pub overflow_add-sets : goal.overflow_add-sets
overflow_add-sets c =
    let taken = c.loop-taken.taken in
    let entry = c.row_of-row.ensures.each taken (omega (arith, c.loop-taken-test.true, c.args.capacity.few)) in
    omega (arith, entry, entry_small c.args.orders taken c.requires, c.loop-taken.invariant.small, c.loop-taken-test.true, c.args.capacity.few)

pub loop-taken-preserved : goal.loop-taken-preserved
loop-taken-preserved c =
    let taken = c.loop-taken.taken in
    let entry = c.row_of-row.ensures.each taken (omega (arith, c.loop-taken-test.true, c.args.capacity.few)) in record {
      so_far = omega (arith, entry, more_below taken (choose c.args.orders), c.loop-taken.invariant.so_far);
      small = omega (arith, entry, entry_small c.args.orders taken c.requires, c.loop-taken.invariant.small);
    }
