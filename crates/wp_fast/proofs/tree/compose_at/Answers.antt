use Rattle.std.proofs.Common.{arith}
use Rattle.wp_fast.proofs.TreeSteps.{composed_set, composed_small, small_set}
use Rattle.wp_fast.proofs.tree.compose_at.Goals as goal

pub returns-clause-composed : goal.returns-clause-composed
returns-clause-composed c = composed_set _ _ _ _ _ c.told-tree c.requires.node c.compose.ensures

pub returns-clause-small : goal.returns-clause-small
returns-clause-small c =
    small_set _ _ _ c.told-tree (omega (arith, c.requires.node))
    (composed_small _ _ _ _ (λ before after. c.requires.small _ _ before after (omega (arith, c.requires.node), omega (arith, c.requires.node)))
    (λ before after. c.requires.small _ _ before after (omega (arith, c.requires.node), omega (arith, c.requires.node))) c.compose.ensures)
    c.requires.small
