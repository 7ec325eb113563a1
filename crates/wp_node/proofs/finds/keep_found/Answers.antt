use Rattle.std.proofs.Common.{arith, subst, sym}
use Rattle.wp_node.specs.Finds.{IsFind}
use Rattle.wp_node.proofs.finds.keep_found.Goals as goal
use Rattle.wp_node.proofs.finds.keep_found.Goals.{then-len-gt0, else-len-gt0}

pub loop-place-preserved : goal.loop-place-preserved
loop-place-preserved c = λ wave old found.
    let before = c.loop-place.invariant wave old found in
    elim c.if-len-gt0.branch [
      | then-len-gt0 w ↦ rw w.kept-is (w.keep_among.ensures wave before (subst (IsFind wave) (sym c.index-found-place.is)
          (found c.loop-place.place c.index-found-place.result (omega (arith, c.loop-place-test.true)))))
      | else-len-gt0 w ↦ rw w.kept-is before
    ]
