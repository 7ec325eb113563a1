use Rattle.std.proofs.Common.{◌≡◌, ◌==◌, ◌∙◌, ap, slice_index, ◌%◌}
use Rattle.std.specs.Int.{bit_at}
use Rattle.std.proofs.lemmas.Bool.{both_ways}
use Rattle.wp_graph.specs.PickSets.{is_marked}
use Rattle.wp_graph.proofs.PickSets.{contained_marked, marked_contained, points_slots}
use Rattle.wp_graph.proofs.picks.Picks.has.Goals as goal

pub returns-then-is_slot-clause-exact : goal.returns-then-is_slot-clause-exact
unfolding is_marked
returns-then-is_slot-clause-exact c =
    let marks : c.has_bit.result ≡ is_marked c.self.inside.words c.args.point.aisle c.args.point.slot =
    c.has_bit.ensures ∙ ap (λ at. bit_at (slice_index c.self.inside.words at) (c.args.point.slot % 64) == 1) c.word_of.ensures.value in
    rw (← c.self.view_is, marks) (λ set. marked_contained _ _ _ (c.is_slot.ensures.0 c.if-is_slot.true) set, λ has. (contained_marked _ _ _ has).1)

pub returns-else-is_slot-clause-exact : goal.returns-else-is_slot-clause-exact
returns-else-is_slot-clause-exact c =
    rw (← c.self.view_is) (λ slot. absurd (both_ways c.is_slot.result c.if-is_slot.false slot), λ has. c.is_slot.ensures.1 (contained_marked _ _ _ has).0)

pub returns-then-is_slot-clause-slots : goal.returns-then-is_slot-clause-slots
returns-then-is_slot-clause-slots c = rw (← c.self.view_is) (points_slots c.self.invariant.marks)

pub returns-else-is_slot-clause-slots : goal.returns-else-is_slot-clause-slots
returns-else-is_slot-clause-slots c = rw (← c.self.view_is) (points_slots c.self.invariant.marks)
