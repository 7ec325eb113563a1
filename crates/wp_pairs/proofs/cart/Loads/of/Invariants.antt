use Rattle.std.proofs.Common.{◌≡◌, length, take}
use Rattle.wp_pairs.specs.Carts.{padded}
use Rattle.wp_pairs.proofs.cart.Loads.of.Given as goal

abbrev pub invariant-loop-order : goal.invariant-loop-order
invariant-loop-order l = record { whole : length l.words ≡ 64; words : l.words ≡ padded (take l.order l.loads) }
