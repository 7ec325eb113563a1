use Rattle.std.proofs.Common.{◌≡◌, ℕ, ◌+◌, length}
use Rattle.wp_lengths.specs.Reaches.{HaveMost}
use Rattle.wp_lengths.proofs.reach.reach_of.Given as goal

abbrev pub invariant-loop : goal.invariant-loop
invariant-loop l = (count : ℕ) × (count + length l.fn.place ≡ l.counter) × HaveMost l.pairs l.duals l.from count l.taken
