use Rattle.std.proofs.Common.{◌≡◌, ◌++◌}
use Rattle.wp_sheets.proofs.GivenBatches.{given_before}
use Rattle.wp_sheets.proofs.crew.print_given.Given as goal

-- those of the batches so far that are given to the picker were written
abbrev pub invariant-loop-place : goal.invariant-loop-place
invariant-loop-place l = l.text.items ≡ l.fn.text.items ++ given_before l.picker l.place l.picker_of l.names l.numbers
