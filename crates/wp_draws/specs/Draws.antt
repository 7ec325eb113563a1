-- Numbers that are drawn one after the other.
use Rattle.std.specs.Prelude.{ℕ, zero, suc, ◌+◌, ◌*◌, ◌/◌, ◌%◌, ◌^◌}

-- the state after a state
unfoldable pub next_state : ℕ → ℕ
next_state state = (state * 6364136223846793005 + 1442695040888963407) % 2 ^ 64

-- the state after so many draws
abbrev pub state_after : ℕ → ℕ → ℕ
state_after zero state = state
state_after (suc draws) state = next_state (state_after draws state)

-- the draw below a number that a state gives
unfoldable pub draw_at : ℕ → ℕ → ℕ
draw_at state below = state / 2 ^ 33 % below
