use Rattle.std.proofs.Common.{arith}
use Rattle.std.proofs.lemmas.Bool.{false≢true}
use Rattle.wp_graph.proofs.WalkMoves.{move_to, walk_more}
use Rattle.wp_graph.proofs.walks.sum_of_moves.Goals as goal

pub returns-in_err-total-clause-exact : goal.returns-in_err-total-clause-exact
returns-in_err-total-clause-exact c =
    rw c.from_residual.ensures
    (λ some. absurd (false≢true some), λ walk. c.in_err-total.ensures.exact.1 (move_to _ _ _ _ _ walk.1 (omega arith) (omega arith)))

pub loop-i-preserved : goal.loop-i-preserved
loop-i-preserved c = record {
  walk = walk_more _ _ _ _ _ _ (omega arith) (omega arith) c.loop-i.invariant.walk c.in_ok-total.ensures.value;
  small = omega (arith, c.in_ok-total.ensures.small);
}
