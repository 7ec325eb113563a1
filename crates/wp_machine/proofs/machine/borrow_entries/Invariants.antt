use Rattle.std.proofs.Common.{◌≡◌, ◌++◌, length, map, reverse}
use Rattle.wp_machine.proofs.machine.borrow_entries.Given as goal

-- the entries that are left and those that were taken off, the newest first
abbrev pub invariant-loop-entry : goal.invariant-loop-entry
invariant-loop-entry l = l.chain ≡ l.at ++ map (λ entry. entry.now) (reverse l.journal.items)

abbrev pub decreases-loop-entry : goal.decreases-loop-entry
decreases-loop-entry l = length l.at
