use Rattle.std.proofs.Common.{arith}
use Rattle.wp_cuts.proofs.KeptParts.{one_more_kind}
use Rattle.wp_cuts.proofs.cut.kinds_of.Goals as goal

pub loop-kind-preserved : goal.loop-kind-preserved
loop-kind-preserved c = one_more_kind c.args.orders.now c.args.parts.now c.loop-kind.kinds c.kind_of.result c.loop-kind.kind c.loop-kind.invariant
    c.loop-kind-test.true c.kind_of.ensures

pub returns : goal.returns
returns c = record {
  whole = c.loop-kind.invariant.whole;
  each = λ kind order low. c.loop-kind.invariant.each kind order (omega (arith, low, c.loop-kind-test.false));
}
