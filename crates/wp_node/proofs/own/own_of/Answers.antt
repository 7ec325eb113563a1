use Rattle.wp_node.proofs.own.own_of.Goals as goal

-- duals that were told to be feasible are, and at no order of the node with which it begins one is dead
pub own_from-requires-after_bounds : goal.own_from-requires-after_bounds
own_from-requires-after_bounds g c κs within = record {
  held = c.requires.start.held;
  above = record { count = c.requires.count; feasible = c.in_ok-are_feasible.ensures.0 c.if-branch.true };
}
