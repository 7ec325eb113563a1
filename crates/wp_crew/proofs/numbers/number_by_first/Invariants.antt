use Rattle.std.proofs.Common.{length}
use Rattle.wp_crew.proofs.NewNumbers.{AreGiven}
use Rattle.wp_crew.proofs.numbers.number_by_first.Given as goal

abbrev pub invariant-loop-picker : goal.invariant-loop-picker
invariant-loop-picker l = AreGiven (length l.fn.number_of) l.picker_of l.number_of l.picker_with l.picker-index l.given
