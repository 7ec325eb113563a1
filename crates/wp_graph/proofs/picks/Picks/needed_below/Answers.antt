use Rattle.std.proofs.Common.{◌≤◌, ◌∙◌, arith, sym}
use Rattle.wp_graph.proofs.NeededAisles.{last_before, lowest_within, none_before}
use Rattle.wp_graph.proofs.PickSets.{points_slots}
use Rattle.wp_graph.proofs.picks.Picks.needed_below.Goals as goal
use Rattle.wp_graph.proofs.picks.Picks.needed_below.Goals.{After-bits_before-before}

last : (c : After-bits_before-before) → c.args.aisle ≤ 65
last c = let within = rw (← c.self.view_is) at c.requires.last in omega (arith, within, c.self.invariant.marks.ranges.aisles)

pub bits_before-before-requires-clause-last : goal.bits_before-before-requires-clause-last
bits_before-before-requires-clause-last c = let within = rw (← c.self.view_is) at c.requires.last in omega (arith, within, c.self.invariant.marks.ranges.aisles)

pub returns-then-before-eq0-clause-last : goal.returns-then-before-eq0-clause-last
returns-then-before-eq0-clause-last c =
    let at = (goal.at.returns-then-before-eq0-clause-last c).After-bits_before-before in
    rw (← c.self.view_is) (none_before c.self.invariant.aisles c.args.aisle (last at) (sym c.bits_before-before.ensures ∙ c.if-before-eq0.true))

pub overflow_sub-result-2 : goal.overflow_sub-result-2
overflow_sub-result-2 c =
    let at = (goal.at.overflow_sub-result-2 c).After-bits_before-before in
    let is = c.bits_before-before.ensures in
    rw is (let within = lowest_within c.self.inside.needed c.args.aisle (omega arith) (last at) (omega (arith, is)) in omega (arith, within))

pub returns-clause-last : goal.returns-clause-last
returns-clause-last c =
    let at = (goal.at.returns-clause-last c).After-bits_before-before in
    let is = c.bits_before-before.ensures in
    rw (← c.self.view_is, is) (last_before c.self.invariant.aisles c.args.aisle (omega arith) (last at) (omega (arith, is)))

pub returns-then-before-eq0-clause-slots : goal.returns-then-before-eq0-clause-slots
returns-then-before-eq0-clause-slots c = rw (← c.self.view_is) (points_slots c.self.invariant.marks)

pub returns-clause-slots : goal.returns-clause-slots
returns-clause-slots c = rw (← c.self.view_is) (points_slots c.self.invariant.marks)
