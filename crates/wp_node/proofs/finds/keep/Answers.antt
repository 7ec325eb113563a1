use Rattle.wp_node.proofs.finds.keep.Goals as goal
use Rattle.wp_node.proofs.finds.keep.Goals.{then-order-lt64, else-order-lt64}

pub loop-preserved : goal.loop-preserved
loop-preserved c = λ wave old this.
    let before = c.loop.invariant wave old this in
    elim c.if-order-lt64.branch [
      | then-order-lt64 w ↦ rw w.kept-is (w.keep_among.ensures wave before this)
      | else-order-lt64 w ↦ rw w.kept-is before
    ]
