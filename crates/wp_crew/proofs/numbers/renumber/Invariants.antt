use Rattle.std.proofs.Common.{◌≡◌, ◌++◌, map, take, drop, slice_index}
use Rattle.wp_crew.proofs.numbers.renumber.Given as goal

abbrev pub invariant-loop-picker : goal.invariant-loop-picker
invariant-loop-picker l = l.picker_of ≡ map (slice_index l.number_of) (take l.picker-index l.fn.picker_of) ++ drop l.picker-index l.fn.picker_of
