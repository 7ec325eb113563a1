use Rattle.std.proofs.Common.{◌≡◌, ◌∷◌, ◌≤◌, List, ℕ, length}
use Rattle.std.specs.Prelude.{codes}
use Rattle.wp_model.specs.Journal.{line}
use Rattle.wp_journal.specs.Journals.{Begins, lines_of}
use Rattle.wp_journal.proofs.replay.replay_entries.Given as goal

-- the journal begins with what the machine has answered, and the other lines are left
abbrev pub invariant-loop-rest : goal.invariant-loop-rest
invariant-loop-rest l =
    ((whole : List ℕ) → lines_of whole ≡ line (codes "journal") ∷ lines_of l.text → Begins l.opening whole l.machine (lines_of l.rest))
    × (l.machine.opening ≡ l.opening) × (length l.machine.entries ≤ 10000)

abbrev pub decreases-loop-rest : goal.decreases-loop-rest
decreases-loop-rest l = length l.rest
