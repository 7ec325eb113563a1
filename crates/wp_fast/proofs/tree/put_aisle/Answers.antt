use Rattle.std.proofs.Common.{◌≡◌, ◌+◌, ℕ, get_or, set, arith, get_or-set_same, subst}
use Rattle.wp_fast.proofs.SmallPassages.{least_up_to, past_aisle_small}
use Rattle.wp_fast.proofs.TreeSteps.{aisle_small, small_set}
use Rattle.wp_fast.proofs.tree.put_aisle.Goals as goal

pub returns-clause-past : goal.returns-clause-past
returns-clause-past c = λ d.
    let here : get_or (set c.args.tree.now c.node_of-node.result c.past_aisle.result) (63 + c.args.aisle) d ≡ c.past_aisle.result =
    subst (λ (k : ℕ). get_or (set c.args.tree.now c.node_of-node.result c.past_aisle.result) k d ≡ c.past_aisle.result) c.node_of-node.ensures
    (get_or-set_same c.args.tree.now c.node_of-node.result c.past_aisle.result d (omega (arith, c.told-tree, c.node_of-node.ensures, c.requires.aisle))) in
    rw here c.past_aisle.ensures.least

pub returns-clause-small : goal.returns-clause-small
returns-clause-small c =
    small_set _ _ _ c.told-tree (omega (arith, c.node_of-node.ensures, c.requires.aisle))
    (aisle_small _ _ (omega (arith, c.node_of-node.ensures, c.requires.aisle)) (least_up_to _ _ 4060000 c.past_aisle.ensures.least
    (past_aisle_small c.args.layout.now c.args.picks.now.points c.args.aisle c.past_aisle.ensures.valid)))
    c.requires.small
