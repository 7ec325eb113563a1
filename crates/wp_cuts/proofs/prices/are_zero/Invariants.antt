use Rattle.std.proofs.Common.{◌≡◌, ◌<◌, ℕ, slice_index_or}
use Rattle.wp_cuts.proofs.prices.are_zero.Given as goal

abbrev pub invariant-loop-price : goal.invariant-loop-price
invariant-loop-price l = (k d : ℕ) → k < l.price-index → slice_index_or l.fn.prices k d ≡ 0
