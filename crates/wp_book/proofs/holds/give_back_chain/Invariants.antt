use Rattle.std.proofs.Common.{◌≡◌, ◌≤◌, ◌+◌, ◌-◌, ℕ, length}
use Rattle.wp_model.specs.Book.{Where, but_of, is_for_wave}
use Rattle.wp_model.specs.Change.{change_rows, free_held_units}
use Rattle.wp_book.specs.Chains.{chain_units}
use Rattle.wp_book.proofs.holds.give_back_chain.Given as goal

abbrev pub invariant-loop-node : goal.invariant-loop-node
invariant-loop-node l = record {
  rest : (row : ℕ) → chain_units (is_for_wave l.wave row) l.chain ≤ chain_units (is_for_wave l.wave row) l.fn.chain;
  rows : l.rows ≡ change_rows (λ row. free_held_units (chain_units (is_for_wave l.wave row) l.fn.chain - chain_units (is_for_wave l.wave row) l.chain)) 0
      l.fn.rows;
  others : (passes : Where) → chain_units (but_of l.wave passes) l.chain + chain_units passes l.done ≡ chain_units (but_of l.wave passes) l.fn.chain;
}

abbrev pub decreases-loop-node : goal.decreases-loop-node
decreases-loop-node l = length l.chain
