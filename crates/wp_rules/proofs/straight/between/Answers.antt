use Rattle.std.proofs.Common.{arith}
use Rattle.wp_model.specs.Warehouse.{spacing_after}
use Rattle.wp_model.proofs.Sums.{sum-grows}
use Rattle.wp_rules.proofs.straight.between.Goals as goal

pub returns-then-one-other-clause-value : goal.returns-then-one-other-clause-value
returns-then-one-other-clause-value c =
    omega (
      arith,
      c.from.ensures,
      c.length_between.ensures.value,
      sum-grows c.args.one c.args.other (spacing_after c.args.layout.now) c.if-one-other.true,
    )

pub returns-else-one-other-clause-value : goal.returns-else-one-other-clause-value
returns-else-one-other-clause-value c =
    omega (
      arith,
      c.from-else-one-other.ensures,
      c.length_between-else-one-other.ensures.value,
      sum-grows c.args.other c.args.one (spacing_after c.args.layout.now) (omega (arith, c.if-one-other.false)),
    )
