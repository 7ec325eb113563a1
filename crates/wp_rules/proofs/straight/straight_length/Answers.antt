use Rattle.std.proofs.Common.{arith}
use Rattle.wp_rules.proofs.Lines.{length_is}
use Rattle.wp_rules.proofs.straight.straight_length.Goals as goal

pub returns-clause-value : goal.returns-clause-value
returns-clause-value c =
    omega (
      arith,
      c.abs_diff.ensures,
      c.distance-one.ensures.value,
      c.distance-other.ensures.value,
      c.between.ensures.value,
      length_is c.args.layout.now c.args.from c.args.to,
    )
