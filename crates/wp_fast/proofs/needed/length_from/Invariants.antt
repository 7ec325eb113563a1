use Rattle.std.proofs.Common.{◌≡◌, None}
use Rattle.wp_model.specs.Warehouse.{IsUpTo}
use Rattle.wp_classes.specs.Choices.{block_of}
use Rattle.wp_fast.specs.Lengths.{AreBehind, AreShort, on_from}
use Rattle.wp_fast.proofs.needed.length_from.Given as goal

abbrev pub invariant-loop-next : goal.invariant-loop-next
invariant-loop-next l = record {
  aisle : IsUpTo l.aisles.layout.now.aisles l.first;
  needed : ((block_of l.aisles.layout.now l.aisles.picks.now.points).ways l.first).skip ≡ None;
  short : AreShort l.onward;
  behind : AreBehind l.aisles.layout.now l.aisles.picks.now.points l.first (on_from l.onward);
}

abbrev pub decreases-loop-next : goal.decreases-loop-next
decreases-loop-next l = l.first
