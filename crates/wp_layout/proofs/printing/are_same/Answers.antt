use Rattle.std.proofs.Common.{arith, sym}
use Rattle.wp_layout.proofs.SameSpacings.{same_told}
use Rattle.wp_layout.proofs.printing.are_same.Goals as goal

pub loop-left-init : goal.loop-left-init
loop-left-init c = λ at low high. absurd (omega (arith, low, high))

pub returns : goal.returns
returns c = sym (same_told c.args.layout.now c.spacing_after-first.ensures.valid c.requires
    (λ at low high. c.loop-left.invariant at low (omega (arith, high, c.loop-left-test.false, c.aisles-left-end.ensures.value))))
