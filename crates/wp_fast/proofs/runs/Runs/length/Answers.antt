use Rattle.std.proofs.Common.{◌-◌}
use Rattle.wp_classes.specs.Choices.{block_of}
use Rattle.wp_classes.proofs.Routes.{IsLeastFirst, least_route, some_way_on}
use Rattle.wp_classes.proofs.Shortest.{shortest}
use Rattle.wp_classes.proofs.Small.{first_small}
use Rattle.wp_fast.proofs.TreeRoot.{first_of_root, root_least}
use Rattle.wp_fast.proofs.runs.Runs.length.Goals as goal
use Rattle.wp_fast.proofs.runs.Runs.length.Goals.{After-length}

first : (c : After-length) → IsLeastFirst (block_of c.self.inside.layout c.self.inside.picks.points) (c.self.inside.layout.aisles - 1) c.length.result
first c =
    first_of_root c.self.inside.layout c.self.inside.picks.points _ c.length.result c.self.invariant.slots.ranges
    (root_least c.self.inside.layout c.self.inside.picks.points c.self.inside.tree _ c.self.invariant.tree) c.length.ensures

pub unwrap-requires : goal.unwrap-requires
unwrap-requires c = some_way_on _ _ _ (first (goal.at.unwrap-requires c).After-length)

pub returns-clause-least : goal.returns-clause-least
returns-clause-least c =
    rw (← c.self.view_is, c.self.invariant.layout_is) (least_route _ _ _ (rw c.unwrap.ensures at (first (goal.at.returns-clause-least c).After-length)))

pub returns-clause-shortest : goal.returns-clause-shortest
returns-clause-shortest c =
    rw (← c.self.view_is, c.self.invariant.layout_is)
    (shortest _ _ _ c.self.invariant.slots (least_route _ _ _ (rw c.unwrap.ensures at (first (goal.at.returns-clause-shortest c).After-length))))

pub returns-clause-small : goal.returns-clause-small
returns-clause-small c = first_small _ _ _ c.self.invariant.slots.ranges (rw c.unwrap.ensures at (first (goal.at.returns-clause-small c).After-length))
