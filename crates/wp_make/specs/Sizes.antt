-- The size of a made input.
use Rattle.std.specs.Prelude.{ℕ, ◌+◌, ◌-◌, ◌*◌, ◌%◌, ◌≤◌, List, min}
use Rattle.std.specs.Int.{div_ceil}
use Rattle.std.specs.List.{range_with_len}
use Rattle.wp_model.specs.Limits.{greatest_desk, most_aisles, most_file_orders, most_submissions, most_wave_orders}
use Rattle.wp_make.specs.declared.input.Size.{Size}

-- how many waves the orders are cut into
abbrev pub wave_count : Size → ℕ
wave_count size = div_ceil size.orders size.wave

-- the numbers are within the bounds of the files, and so are the waves
pub record IsSize (size : Size) : Type 0 where
  pub some_aisles : 1 ≤ size.aisles
  pub aisles : size.aisles ≤ most_aisles
  pub some_orders : 1 ≤ size.orders
  pub orders : size.orders ≤ most_file_orders
  pub some_desks : 1 ≤ size.desks
  pub desks : size.desks ≤ greatest_desk
  pub some_wave : 1 ≤ size.wave
  pub wave : size.wave ≤ most_wave_orders
  pub waves : wave_count size ≤ most_submissions

-- the numbers of the orders of the wave after so many: those after the orders of the waves before it, as many as a wave
-- has, or as are left
abbrev pub orders_of_wave : Size → ℕ → List ℕ
orders_of_wave size waves = range_with_len (waves * size.wave + 1) (min size.wave (size.orders - waves * size.wave))

-- the desk of the wave after so many: the desks take turns
abbrev pub desk_of_wave : Size → ℕ → ℕ
desk_of_wave size waves = 1 + waves % size.desks
