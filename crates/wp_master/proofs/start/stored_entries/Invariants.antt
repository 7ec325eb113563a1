use Rattle.std.proofs.Common.{◌≡◌, length}
use Rattle.wp_master.specs.Spots.{AreStoredStarts}
use Rattle.wp_master.proofs.start.stored_entries.Given as goal

abbrev pub invariant-loop-at : goal.invariant-loop-at
invariant-loop-at l = record { count : length l.entries.items ≡ l.at; each : AreStoredStarts l.pool l.width l.entries.items }
