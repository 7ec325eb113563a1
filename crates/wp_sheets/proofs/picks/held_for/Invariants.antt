use Rattle.std.proofs.Common.{◌≡◌, take}
use Rattle.std.specs.List.{filter}
use Rattle.wp_sheets.specs.Picks.{is_of}
use Rattle.wp_sheets.proofs.picks.held_for.Given as goal

-- those of the holds so far that are for the batch's orders were taken
abbrev pub invariant-loop-hold : goal.invariant-loop-hold
invariant-loop-hold l = l.picks.items ≡ filter (is_of l.batch) (take l.hold-index l.holds)
