use Rattle.std.proofs.Common.{◌≡◌, ℕ, ◌+◌, ◌*◌, ◌%◌, ◌^◌, arith}
use Rattle.wp_draws.specs.Draws.{next_state}
use Rattle.wp_draws.proofs.draws.next_state.Goals as goal

-- what is left of a product may be added to, and then it is left of the sum
left_of_sum : (product : ℕ) → (product % 2 ^ 64 + 1442695040888963407) % 2 ^ 64 ≡ (product + 1442695040888963407) % 2 ^ 64
left_of_sum product = omega arith

pub returns : goal.returns
unfolding next_state
returns c = left_of_sum (c.args.state * 6364136223846793005)
