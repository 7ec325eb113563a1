-- What a node of the search costs of the budget.
use Rattle.std.specs.Prelude.{◌≡◌, ℕ, zero, suc, ◌+◌, ◌*◌, ◌-◌, ◌/◌, ◌^◌, ◌<◌, List, length, slice_index}
use Rattle.wp_model.specs.Sums.{sum_below}

-- how many sets of so many things there are among so many
unfoldable pub choose : ℕ → ℕ → ℕ
choose things zero = 1
choose zero (suc taken) = 0
choose (suc things) (suc taken) = choose things taken + choose things (suc taken)

-- how many sets of orders are within a capacity, that of no order among them
abbrev pub sets_within : ℕ → ℕ → ℕ
sets_within orders capacity = sum_below (capacity + 1) (choose orders)

-- the price of a node's own duals: so many visits of all sets of orders within the capacity
abbrev pub price : ℕ → ℕ → ℕ
price orders capacity = (4 * orders + 4) * sets_within orders capacity

-- a budget that pays for any tree: a path has no more pairs than there are pairs of orders, so fewer nodes than this
-- power of two have duals of their own
abbrev pub full : ℕ → ℕ → ℕ
full orders capacity = price orders capacity * 2 ^ (orders * (orders - 1) / 2 + 1)

-- the numbers of sets of 0 to 8 things among so many (the row of Pascal's triangle, as far as the greatest capacity)
pub record IsRow (things : ℕ) (row : List ℕ) : Type 0 where
  pub count : length row ≡ 9
  pub each : (taken : ℕ) → taken < 9 → slice_index row taken ≡ choose things taken
