use Rattle.std.proofs.Common.{◌≤◌, drop, length}
use Rattle.wp_journal.specs.Replays.{LinesBegin}
use Rattle.wp_top.proofs.store.replay_records.Given as goal

-- the machine has answered what the records so far say
abbrev pub invariant-loop-number : goal.invariant-loop-number
invariant-loop-number l = LinesBegin l.opening l.records l.machine (drop l.number l.records) × (length l.machine.entries ≤ 10000)
