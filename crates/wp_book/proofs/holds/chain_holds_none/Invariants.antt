use Rattle.std.proofs.Common.{◌≡◌, length}
use Rattle.wp_model.specs.Book.{is_of}
use Rattle.wp_book.specs.Chains.{chain_units}
use Rattle.wp_book.proofs.holds.chain_holds_none.Given as goal

abbrev pub invariant-loop-node : goal.invariant-loop-node
invariant-loop-node l = chain_units (is_of l.wave) l.at ≡ chain_units (is_of l.wave) l.chain

abbrev pub decreases-loop-node : goal.decreases-loop-node
decreases-loop-node l = length l.at
