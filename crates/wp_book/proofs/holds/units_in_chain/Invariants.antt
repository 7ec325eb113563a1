use Rattle.std.proofs.Common.{◌≡◌, ◌+◌, length}
use Rattle.wp_model.specs.Book.{is_for}
use Rattle.wp_book.specs.Chains.{chain_units}
use Rattle.wp_book.proofs.holds.units_in_chain.Given as goal

abbrev pub invariant-loop-node : goal.invariant-loop-node
invariant-loop-node l = l.units + chain_units (is_for l.wave l.order l.row) l.at ≡ chain_units (is_for l.wave l.order l.row) l.chain

abbrev pub decreases-loop-node : goal.decreases-loop-node
decreases-loop-node l = length l.at
