-- The order in which lengths are dealt, and a deal in which no load is much above another.
use Rattle.std.specs.Prelude.{◌≡◌, ℕ, ◌+◌, ◌^◌, ◌<◌, ◌≤◌, All, List, length, slice_index, slice_index_or}
use Rattle.wp_crew.specs.Crews.{IsAssignment, load}
use Rattle.wp_crew.specs.declared.turns.PlacedLength.{PlacedLength}

-- the place and the length of the turn at a place of a list
abbrev pub no_turn : PlacedLength
no_turn = record { length = 0; place = 0 }

abbrev pub place_at : List PlacedLength → ℕ → ℕ
place_at turns at = (slice_index_or turns at no_turn).place

abbrev pub length_at : List PlacedLength → ℕ → ℕ
length_at turns at = (slice_index_or turns at no_turn).length

-- a turn for each length of a list, in some order
pub record AreTurns (lengths : List ℕ) (turns : List PlacedLength) : Type 0 where
  pub count : length turns ≡ length lengths
  pub within : (at : ℕ) → at < length turns → place_at turns at < length lengths
  pub right : (at : ℕ) → at < length turns → length_at turns at ≡ slice_index lengths (place_at turns at)
  pub apart : (at other : ℕ) → at < length turns → other < length turns → place_at turns at ≡ place_at turns other
      → at ≡ other
  pub every : (place : ℕ) → place < length lengths → (at : ℕ) × (at < length turns) × (place_at turns at ≡ place)

-- none is longer than one before it
abbrev pub AreFalling : List PlacedLength → Type 0
AreFalling turns = (at other : ℕ) → at ≤ other → other < length turns → length_at turns other ≤ length_at turns at

-- a turn for each length of a list, the longest first
pub record AreFallingTurns (lengths : List ℕ) (turns : List PlacedLength) : Type 0 where
  pub one_each : AreTurns lengths turns
  pub falling : AreFalling turns

-- what may be dealt: at most 1,000,000 lengths of at most 2^40
pub record AreFew (lengths : List ℕ) : Type 0 where
  pub count : length lengths ≤ 1000000
  pub each : All (λ one. one ≤ 2 ^ 40) lengths

-- an assignment in which no load is above another by more than each length in it
pub record IsBalanced (lengths : List ℕ) (pickers : ℕ) (picker_of : List ℕ) : Type 0 where
  pub assigned : IsAssignment lengths pickers picker_of
  pub balanced : (place other : ℕ) → place < length lengths → other < pickers
      → load lengths picker_of (slice_index picker_of place) ≤ load lengths picker_of other + slice_index lengths place
