use Rattle.std.proofs.Common.{◌≡◌, ◌++◌, ◌<◌, ◌≤◌, ℕ, true}
use Rattle.wp_model.specs.Step.{is_among}
use Rattle.wp_outgoing.specs.Names.{numbered_name}
use Rattle.wp_outgoing.proofs.names.next_name.Given as goal

-- the names of the numbers so far are taken
abbrev pub invariant-loop-number : goal.invariant-loop-number
invariant-loop-number g l = (k : ℕ) → 1 ≤ k → k < l.number → is_among (g.N.WaveNames.names l.submitted ++ l.before) (numbered_name l.group k) ≡ true
