use Rattle.std.proofs.Common.{arith}
use Rattle.wp_model.specs.Warehouse.{step_length}
use Rattle.wp_model.proofs.Sums.{sum-grows}
use Rattle.wp_rules.proofs.gap.wider.Goals as goal

pub overflow_sub-width : goal.overflow_sub-width
overflow_sub-width c =
    omega (
      arith,
      c.distance.ensures.value,
      c.distance-2.ensures.value,
      sum-grows c.args.gap.shallow c.args.gap.deep (step_length c.args.layout.now) c.requires.gap.0,
    )

pub overflow_sub-distance : goal.overflow_sub-distance
overflow_sub-distance c =
    omega (
      arith,
      c.distance-3.ensures.value,
      c.distance-4.ensures.value,
      sum-grows c.args.deeper.shallow c.args.deeper.deep (step_length c.args.layout.now) c.requires.deeper.0,
    )
