-- How many waves there is room for.
use Rattle.std.specs.Prelude.{ℕ, ◌-◌, min}
use Rattle.std.specs.Prelude.{◌/◌}
use Rattle.wp_model.specs.Limits.{most_entries}

-- how many of so many waves go out: as many as are asked for at most, and no more than the journal has room for after
-- so many entries, where each has two
abbrev pub waves_with_room : ℕ → ℕ → ℕ → ℕ
waves_with_room waves most entries = min (min waves most) ((most_entries - entries) / 2)
