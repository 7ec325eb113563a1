use Rattle.std.proofs.Common.{◌≡◌, ◌≤◌, ◌+◌, ◌-◌, length, if◌then◌else◌}
use Rattle.wp_model.specs.Book.{Where, is_for}
use Rattle.wp_book.specs.Chains.{chain_units}
use Rattle.wp_book.proofs.holds.take_from_chain.Given as goal

abbrev pub invariant-loop-node : goal.invariant-loop-node
invariant-loop-node l = record {
  most : l.left ≤ l.units;
  rest : chain_units (is_for l.wave l.order l.row) l.chain ≤ chain_units (is_for l.wave l.order l.row) l.fn.chain;
  left : l.left ≡ l.units - (chain_units (is_for l.wave l.order l.row) l.fn.chain - chain_units (is_for l.wave l.order l.row) l.chain);
  taken : (passes : Where) → chain_units passes l.chain + chain_units passes l.done +
      (if passes l.wave l.order l.row then l.units - l.left else 0) ≡ chain_units passes l.fn.chain;
}

abbrev pub decreases-loop-node : goal.decreases-loop-node
decreases-loop-node l = length l.chain
