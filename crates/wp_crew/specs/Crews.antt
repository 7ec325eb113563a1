-- Crews: lengths that are dealt to pickers, what each picker then walks, and when the longest load is settled (Graham,
-- 1969).
use Rattle.std.specs.Prelude.{◌≡◌, ℕ, ◌+◌, ◌-◌, ◌*◌, ◌/◌, ◌<◌, ◌≤◌, ◌==◌, max, sum, List, [], ◌∷◌, length, slice_index}
use Rattle.std.specs.Prelude.{All, if◌then◌else◌}

-- a picker's load is the sum of the lengths that are given to it
unfoldable pub load : List ℕ → List ℕ → ℕ → ℕ
load [] pickers picker = 0
load (one ∷ lengths) [] picker = 0
load (one ∷ lengths) (owner ∷ owners) picker = (if owner == picker then one else 0) + load lengths owners picker

-- the greatest of some numbers, 0 where there are none
unfoldable pub greatest : List ℕ → ℕ
greatest [] = 0
greatest (one ∷ numbers) = max one (greatest numbers)

-- an assignment gives each length one of so many pickers
pub record IsAssignment (lengths : List ℕ) (pickers : ℕ) (picker_of : List ℕ) : Type 0 where
  pub each : length picker_of ≡ length lengths
  pub below : All (λ picker. picker < pickers) picker_of

-- the loads of the pickers of an assignment
pub record AreLoads (lengths : List ℕ) (pickers : ℕ) (picker_of loads : List ℕ) : Type 0 where
  pub count : length loads ≡ pickers
  pub sums : (picker : ℕ) → picker < pickers → slice_index loads picker ≡ load lengths picker_of picker

-- a crew is settled: no length of a picker with the longest load could go to another picker without making that load as
-- long
abbrev pub IsSettled : List ℕ → List ℕ → List ℕ → Type 0
IsSettled lengths picker_of loads = (place other : ℕ) → place < length lengths → other < length loads
    → slice_index loads (slice_index picker_of place) ≡ greatest loads
    → greatest loads ≤ slice_index loads other + slice_index lengths place

-- pickers are numbered by the place of their first length: before a length goes to a picker, each picker of a lower
-- number has one
abbrev pub AreNumberedByFirst : List ℕ → Type 0
AreNumberedByFirst picker_of = (place lower : ℕ) → place < length picker_of → lower < slice_index picker_of place
    → (before : ℕ) × (before < place) × (slice_index picker_of before ≡ lower)

-- what the longest load is at least: the greatest length, and what each picker has if all have the same, rounded up
abbrev pub least_longest : List ℕ → ℕ → ℕ
least_longest lengths pickers = max (greatest lengths) ((sum lengths + (pickers - 1)) / pickers)

-- a settled crew of so many pickers for some lengths
pub record IsCrew (lengths : List ℕ) (pickers : ℕ) (picker_of loads : List ℕ) (longest least : ℕ) : Type 0 where
  pub assigned : IsAssignment lengths pickers picker_of
  pub loaded : AreLoads lengths pickers picker_of loads
  pub settled : IsSettled lengths picker_of loads
  pub numbered : AreNumberedByFirst picker_of
  pub greatest_load : longest ≡ greatest loads
  pub least_load : least ≡ least_longest lengths pickers

-- in no assignment of the lengths the longest load is below a number
abbrev pub NoneIsBelow : List ℕ → ℕ → ℕ → Type 0
NoneIsBelow lengths pickers number = (picker_of loads : List ℕ) → IsAssignment lengths pickers picker_of
    → AreLoads lengths pickers picker_of loads → number ≤ greatest loads

-- the longest load is no further above the mean load than each length of a picker that has it allows
abbrev pub IsNearTheMean : List ℕ → ℕ → List ℕ → List ℕ → ℕ → Type 0
IsNearTheMean lengths pickers picker_of loads longest = (place : ℕ) → place < length lengths
    → slice_index loads (slice_index picker_of place) ≡ longest
    → pickers * longest ≤ sum lengths + (pickers - 1) * slice_index lengths place
