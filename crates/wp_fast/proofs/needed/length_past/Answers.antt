use Rattle.std.proofs.Common.{◌+◌}
use Rattle.wp_classes.specs.Choices.{block_of}
use Rattle.wp_fast.specs.SpareRuns.{IsNextNeeded}
use Rattle.wp_fast.proofs.Carrying.{shortest_layout, small_layout}
use Rattle.wp_fast.proofs.Warehouse.{last_needed, next_needed}
use Rattle.wp_fast.proofs.needed.length_past.Goals as goal
use Rattle.wp_fast.proofs.needed.length_past.Goals.{After-needed_below}

-- the aisle before the end is the last needed one
found : (c : After-needed_below) → IsNextNeeded (block_of c.args.aisles.now.layout.now c.args.aisles.now.picks.now.points)
    (c.args.aisles.now.layout.now.aisles + 1) c.needed_below.result
found c = next_needed _ _ _ _ _ c.args.aisles.now.of_layout c.needed_below.ensures.slots (rw c.aisles.ensures.value at c.needed_below.ensures.last)

pub unwrap-last-requires : goal.unwrap-last-requires
unwrap-last-requires c =
    last_needed c.args.aisles.now.layout.now c.args.aisles.now.picks.now.points _ c.aisles.ensures.valid
    (found (goal.at.unwrap-last-requires c).After-needed_below)

pub length_to-requires-clause-needed : goal.length_to-requires-clause-needed
length_to-requires-clause-needed c = (rw c.unwrap-last.ensures at (found (goal.at.length_to-requires-clause-needed c).After-needed_below)).2

pub length_to-requires-clause-behind : goal.length_to-requires-clause-behind
length_to-requires-clause-behind c = (rw c.unwrap-last.ensures at (found (goal.at.length_to-requires-clause-behind c).After-needed_below)).3

pub returns-clause-shortest : goal.returns-clause-shortest
returns-clause-shortest c = shortest_layout _ _ _ c.length_to.ensures.slots c.length_to.ensures.least

pub returns-clause-small : goal.returns-clause-small
returns-clause-small c = small_layout _ _ _ c.length_to.ensures.slots c.length_to.ensures.least
