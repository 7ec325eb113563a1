use Rattle.wp_fast.proofs.Carrying.{along_short, behind_run, carried_short, carried_to, ways_needed}
use Rattle.wp_fast.specs.Lengths.{AreCarried, PastTheRest}
use Rattle.wp_fast.proofs.needed.after_next.Goals as goal
use Rattle.wp_fast.proofs.needed.after_next.Goals.{After-before_way-carried}

-- what is carried to the aisle
carried : (c : After-before_way-carried)
    → AreCarried (PastTheRest c.args.aisles.now.layout.now c.args.aisles.now.picks.now.points c.args.aisle) c.before_way-carried.result
carried c = carried_to _ _ _ _ _ _ c.ways_through.ensures.value c.requires.after c.before_way-carried.ensures

pub before_way-carried-requires-clause-ways : goal.before_way-carried-requires-clause-ways
before_way-carried-requires-clause-ways c = ways_needed _ _ _ _ c.ways_through.ensures.valid c.ways_through.ensures.value c.requires.neighbours.there

pub span_between-requires-clause-order : goal.span_between-requires-clause-order
span_between-requires-clause-order c = c.requires.neighbours.order

pub along-requires-clause-lengths : goal.along-requires-clause-lengths
along-requires-clause-lengths c =
    carried_short _ _ _ _ c.ways_through.ensures.valid c.requires.last (carried (goal.at.along-requires-clause-lengths c).After-before_way-carried)

pub returns-clause-short : goal.returns-clause-short
returns-clause-short c =
    rw c.along.ensures (along_short _ _ _ _ _ c.ways_through.ensures.valid c.requires.last c.span_between.ensures.small
    (carried (goal.at.returns-clause-short c).After-before_way-carried))

pub returns-clause-behind : goal.returns-clause-behind
returns-clause-behind c =
    rw c.along.ensures (behind_run _ _ _ _ _ _ c.requires.neighbours c.requires.last c.span_between.ensures.value
    (carried (goal.at.returns-clause-behind c).After-before_way-carried))
