use Rattle.std.proofs.Common.{◌≡◌, [], length, take}
use Rattle.wp_grouping.specs.Gathering.{AreKept, all_joined}
use Rattle.wp_grouping.proofs.gathering.gather.Given as goal

-- the waves so far are those of the orders so far
abbrev pub invariant-loop-number : goal.invariant-loop-number
invariant-loop-number l = record {
  count : length l.places.items ≡ length l.served;
  kept : AreKept (all_joined [] (take l.number l.served) (take l.number l.keys)) l.waves.items l.places.items;
}
