-- New numbers for the pickers of an assignment.
use Rattle.std.specs.Prelude.{◌≡◌, ℕ, ◌<◌, List, length, map, slice_index}

-- a number for each picker, and the picker with each number
pub record AreNumbers (pickers : ℕ) (number_of picker_with : List ℕ) : Type 0 where
  pub number_count : length number_of ≡ pickers
  pub picker_count : length picker_with ≡ pickers
  pub number_below : (picker : ℕ) → picker < pickers → slice_index number_of picker < pickers
  pub picker_below : (number : ℕ) → number < pickers → slice_index picker_with number < pickers
  pub back : (picker : ℕ) → picker < pickers → slice_index picker_with (slice_index number_of picker) ≡ picker
  pub there : (number : ℕ) → number < pickers → slice_index number_of (slice_index picker_with number) ≡ number

-- an assignment with other numbers for its pickers
abbrev pub IsRenumbered : ℕ → List ℕ → List ℕ → Type 0
IsRenumbered pickers before after = (number_of picker_with : List ℕ) × (AreNumbers pickers number_of picker_with)
    × (after ≡ map (slice_index number_of) before)
