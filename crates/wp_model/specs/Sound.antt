-- Sound states.
use Rattle.std.specs.Prelude.{◌≡◌, ◌≢◌, ℕ, ◌+◌, ◌≤◌, ◌<◌, ◌==◌, IsTrue, false, Bool, List, length, Some, if◌then◌else◌}
use Rattle.std.specs.Prelude.{slice_get, IfSome}
use Rattle.std.specs.List.{All}
use Rattle.std.specs.Option.{option_map_or}
use Rattle.wp_model.specs.Demand.{demand_at}
use Rattle.wp_model.specs.History.{History, state_at}
use Rattle.wp_model.specs.Opening.{Opening, is_known_order, order_units}
use Rattle.wp_model.specs.Limits.{most_on_hand, most_wave_orders}
use Rattle.wp_model.specs.State.{State, Wave, wave_held, wave_held_at}
use Rattle.wp_model.specs.Step.{is_live}
use Rattle.wp_model.specs.Sums.{sum_below}
use Rattle.wp_model.specs.declared.reply.WaveState.{WaveState}
use Rattle.wp_model.specs.declared.reply.WaveState.TheVariants as wave
use Rattle.wp_model.specs.declared.row.Row.{Row}

-- what is on hand is free or held, and no more than a row may have
pub record IsBalanced (row : Row) : Type 0 where
  pub sum : row.on_hand ≡ row.free + row.held
  pub most : row.on_hand ≤ most_on_hand

-- how many orders the wave with a number has, none where there is no such wave
abbrev pub orders_in : State → ℕ → ℕ
orders_in state number = option_map_or (λ w. length w.orders) (slice_get state.waves number) 0

-- the units held at a row, over all waves
abbrev pub held_at : State → ℕ → ℕ
held_at state row = sum_below (length state.waves) (λ number. wave_held_at state number (orders_in state number) row)

-- a row's units, where it is of the article
abbrev pub units_of : List Row → ℕ → (ℕ → ℕ) → ℕ → ℕ
units_of rows article units row = option_map_or (λ r. if r.article == article then units row else 0)
    (slice_get rows row) 0

-- the units of an article that are held for the order at a place of a wave
abbrev pub order_held : State → ℕ → ℕ → ℕ → ℕ
order_held state number article place = sum_below (length state.rows)
    (units_of state.rows article (state.held number place))

-- each order of a wave holds just what its lines want, article by article
abbrev pub HoldsItsDemand : Opening → State → ℕ → Wave → Type 0
HoldsItsDemand opening state number w = (place article : ℕ) → order_held state number article place
    ≡ demand_at opening w.orders article place

-- a wave holds what a wave in its state does: just what its orders want once it is allotted, at least one unit while it
-- is released, and nothing before stock is held for it and after its end
abbrev pub HoldsAs : WaveState → Opening → State → ℕ → Wave → Type 0
HoldsAs wave.Allotted opening state number w = HoldsItsDemand opening state number w
HoldsAs wave.Released opening state number w = 0 < wave_held state number (length w.orders)
HoldsAs other opening state number w = wave_held state number (length w.orders) ≡ 0

-- no unit of a wave that isn't released yet was picked
abbrev pub PickedAs : WaveState → Bool → Type 0
PickedAs wave.Submitted picked = picked ≡ false
PickedAs wave.Allotted picked = picked ≡ false
PickedAs other picked = Unit {0}

-- the places of a list have different values
abbrev pub AreDifferent : {A : Type 0} → List A → Type 0
AreDifferent {A} xs = (i j : ℕ) (x : A) → slice_get xs i ≡ Some x → slice_get xs j ≡ Some x → i ≡ j

-- where the opening has units of a cart, the order has no more
abbrev pub FitsCart : Opening → List ℕ → Type 0
FitsCart opening order = IfSome opening.units (λ cart. order_units opening.orders order ≤ cart)

-- a wave has 1 to 64 different orders of the opening, none with more units than a cart holds, and holds and has picked
-- what its state allows
pub record IsSoundWave (opening : Opening) (state : State) (number : ℕ) (w : Wave) : Type 0 where
  pub some : 0 < length w.orders
  pub most : length w.orders ≤ most_wave_orders
  pub different : AreDifferent w.orders
  pub known : All (λ order. IsTrue (is_known_order opening.orders order)) w.orders
  pub fits : All (FitsCart opening) w.orders
  pub holds : HoldsAs w.state opening state number w
  pub picked : PickedAs w.state w.picked

-- all that is true of a state, whatever commands came
pub record IsSound (opening : Opening) (state : State) : Type 0 where
  pub rows : All IsBalanced state.rows
  pub held : (row : ℕ) → IfSome (slice_get state.rows row) (λ r. r.held ≡ held_at state row)
  pub nowhere_else : (number order row : ℕ) → state.held number order row ≢ 0
      → (order < orders_in state number) × (row < length state.rows)
  pub waves : (number : ℕ) → IfSome (slice_get state.waves number) (IsSoundWave opening state number)
  pub names : (i j : ℕ) (v w : Wave) → slice_get state.waves i ≡ Some v → slice_get state.waves j ≡ Some w
      → v.name ≡ w.name → i ≡ j
  pub once : (i j : ℕ) (v w : Wave) (k l : ℕ) (order : List ℕ) → slice_get state.waves i ≡ Some v
      → slice_get state.waves j ≡ Some w
      → IsTrue (is_live v.state) → IsTrue (is_live w.state) → slice_get v.orders k ≡ Some order
      → slice_get w.orders l ≡ Some order → i ≡ j

-- each state of a history is sound: that before its first entry, and that after each
abbrev pub EachStateIsSound : History → Type 0
EachStateIsSound history = (entries : ℕ) → IsSound history.opening (state_at history entries)
