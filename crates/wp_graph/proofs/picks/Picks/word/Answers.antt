use Rattle.wp_graph.proofs.PointTests.{word_tells}
use Rattle.wp_graph.proofs.PickSets.{points_slots}
use Rattle.wp_graph.proofs.picks.Picks.word.Goals as goal

pub returns-clause-bits : goal.returns-clause-bits
returns-clause-bits c = rw (← c.self.view_is) (λ k small. word_tells _ _ _ _ k c.self.invariant.marks
    (rw (← c.self.view_is) at c.requires.aisle) c.requires.index small)

pub returns-clause-slots : goal.returns-clause-slots
returns-clause-slots c = rw (← c.self.view_is) (points_slots c.self.invariant.marks)
