-- Holding by overlap. The free units of an article's rows lie end to end on a line from 0, in row order, and so do
-- the demands of a wave's orders, in wave order. An order takes from a row what their two intervals have in common.
use Rattle.std.specs.Prelude.{ℕ, suc, ◌-◌, min, max}
use Rattle.wp_model.specs.Sums.{sum_below}

-- how many units the interval from a to b and that from c to d have in common
abbrev pub common : ℕ → ℕ → ℕ → ℕ → ℕ
common a b c d = min b d - max a c

-- how many units the order takes from the row, where these are the demands and the offers by place
abbrev pub overlap : (ℕ → ℕ) → (ℕ → ℕ) → ℕ → ℕ → ℕ
overlap demand offer order row =
    common (sum_below order demand) (sum_below (suc order) demand) (sum_below row offer) (sum_below (suc row) offer)
