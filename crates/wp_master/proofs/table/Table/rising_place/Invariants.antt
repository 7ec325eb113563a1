use Rattle.wp_master.specs.Choices.{IsRisingBefore}
use Rattle.wp_master.proofs.table.Table.rising_place.Given as goal

abbrev pub invariant-loop-place : goal.invariant-loop-place
invariant-loop-place l = IsRisingBefore l.self l.last l.place l.best
