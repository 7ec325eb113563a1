-- The lines of made orders.
use Rattle.std.specs.Prelude.{ℕ, zero, suc, ◌+◌, ◌*◌, List, map}
use Rattle.std.specs.List.{range_with_len}
use Rattle.wp_draws.specs.Draws.{draw_at, next_state, state_after}
use Rattle.wp_make.specs.declared.generator.MadeLine.{MadeLine}

-- how many slots a made aisle has
abbrev pub made_slots : ℕ
made_slots = 40

-- how many lines an order has that is made from a state on: one to three
abbrev pub line_count : ℕ → ℕ
line_count state = 1 + draw_at (next_state state) 3

-- the line that is made from a state on, among so many aisles: where its article lies, and how many units of it are
-- wanted
abbrev pub line_from : ℕ → ℕ → MadeLine
line_from aisles state = record {
  aisle = 1 + draw_at (state_after 1 state) aisles;
  slot = 1 + draw_at (state_after 2 state) made_slots;
  quantity = 1 + draw_at (state_after 3 state) 5;
}

-- the lines, of three draws each, of the order that is made from a state on
abbrev pub order_lines : ℕ → ℕ → List MadeLine
order_lines aisles state = map (λ line. line_from aisles (state_after (3 * line) (next_state state)))
    (range_with_len 0 (line_count state))

-- the state after so many orders
abbrev pub after_orders : ℕ → ℕ → ℕ
after_orders zero state = state
after_orders (suc orders) state =
    let before = after_orders orders state in
    state_after (3 * line_count before) (next_state before)
