-- What a move of units keeps.
use Rattle.std.specs.Prelude.{◌≡◌, ◌≢◌, ℕ, ◌<◌, List, length, slice_get, IfSome}
use Rattle.std.specs.List.{All}
use Rattle.wp_model.specs.Sound.{IsBalanced, held_at, orders_in, units_of}
use Rattle.wp_model.specs.State.{State}
use Rattle.wp_model.specs.declared.row.Row.{Row}

-- what is true of the rows and the held units of a sound state
pub record IsSoundStock (state : State) : Type 0 where
  pub rows : All IsBalanced state.rows
  pub held : (row : ℕ) → IfSome (slice_get state.rows row) (λ r. r.held ≡ held_at state row)
  pub nowhere_else : (number order row : ℕ) → state.held number order row ≢ 0
      → (order < orders_in state number) × (row < length state.rows)

-- as many rows, of the same articles
pub record AreAlike (old new : List Row) : Type 0 where
  pub count : length new ≡ length old
  pub articles : (article : ℕ) (units : ℕ → ℕ) (k : ℕ) → units_of new article units k ≡ units_of old article units k

-- another state of sound stock, in which one wave alone may hold something else
pub record IsMoved (number : ℕ) (old new : State) : Type 0 where
  pub waves : new.waves ≡ old.waves
  pub stock : IsSoundStock new
  pub alike : AreAlike old.rows new.rows
  pub others : (w order row : ℕ) → w ≢ number → new.held w order row ≡ old.held w order row
