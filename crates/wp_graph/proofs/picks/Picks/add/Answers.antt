use Rattle.std.proofs.Common.{arith}
use Rattle.wp_model.specs.Warehouse.{IsSlot}
use Rattle.wp_graph.proofs.NeededAisles.{one_more_needed}
use Rattle.wp_graph.proofs.PickSets.{AddsBit, added_points, added_slots}
use Rattle.wp_graph.proofs.picks.Picks.add.Goals as goal
use Rattle.wp_graph.proofs.picks.Picks.add.Goals.{After-word_of-word}

slot : (c : After-word_of-word) → IsSlot c.self.inside.layout c.args.point
slot c = rw (← c.self.view_is) at c.requires

adds : (c : After-word_of-word) → AddsBit c.self.inside.layout c.self.inside.words c.args.point c.word_of-word.result
adds c = record { before = c.self.invariant.marks; whole = c.self.told; slot = slot c; place = c.word_of-word.ensures.value }

pub bit_of-requires : goal.bit_of-requires
bit_of-requires c =
    let is = (slot (goal.at.bit_of-requires c).After-word_of-word).aisle in (is.0, omega (arith, is, c.self.invariant.marks.ranges.aisles))

pub invariant_of-self : goal.invariant_of-self
invariant_of-self c =
    let bit = adds (goal.at.invariant_of-self c).After-word_of-word in
    let is = bit.slot.aisle in
    record {
      marks = added_slots bit;
      aisles = rw c.bit_of.ensures (one_more_needed c.args.point c.self.invariant.aisles (is.0, omega (arith, is, c.self.invariant.marks.ranges.aisles))
          (added_points bit));
    }

pub returns-clause-points : goal.returns-clause-points
returns-clause-points c = rw (← c.self.view_is) (added_points (adds (goal.at.returns-clause-points c).After-word_of-word))
