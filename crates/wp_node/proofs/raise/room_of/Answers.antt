use Rattle.std.proofs.Common.{arith}
use Rattle.wp_node.proofs.raise.room_of.Goals as goal

pub overflow_sub-result : goal.overflow_sub-result
overflow_sub-result c = omega (arith, c.requires.within c.batch_length.result c.batch_length.ensures.is, c.sum_of.ensures.is)

pub returns : goal.returns
returns c =
    let low = c.requires.within c.batch_length.result c.batch_length.ensures.is in record {
      total = c.batch_length.result;
      long = c.batch_length.ensures.is;
      small = c.batch_length.ensures.small;
      equal = omega (arith, low, c.sum_of.ensures.is);
    }
