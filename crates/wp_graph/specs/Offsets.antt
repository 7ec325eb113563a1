-- How far the aisles lie from the first one, and how a layout keeps that.
use Rattle.std.specs.Prelude.{◌≡◌, ℕ, ◌+◌, ◌-◌, ◌≤◌, List, [], ◌∷◌, ◌++◌, length, replicate, slice_index, take, All}
use Rattle.wp_model.specs.Limits.{greatest_length, most_aisles}
use Rattle.wp_model.specs.Sums.{sum_below}
use Rattle.wp_model.specs.Warehouse.{IsUpTo, Layout, spacing_after}

-- how far an aisle lies from the first one, given the lengths between neighbours
abbrev pub offset : List ℕ → ℕ → ℕ
offset spacings aisle = sum_below aisle (slice_index (0 ∷ spacings))

-- how far an aisle of a layout lies from the first one
abbrev pub aisle_offset : Layout → ℕ → ℕ
aisle_offset layout aisle = sum_below aisle (spacing_after layout)

-- how far each aisle lies from where the first one is so far on
abbrev pub offsets_from : ℕ → List ℕ → List ℕ
offsets_from from [] = from ∷ []
offsets_from from (spacing ∷ spacings) = from ∷ offsets_from (from + spacing) spacings

-- the differences of neighbours
abbrev pub differences : List ℕ → List ℕ
differences [] = []
differences (near ∷ []) = []
differences (near ∷ next ∷ far) = (next - near) ∷ differences (next ∷ far)

-- a word for each aisle that a layout may have: how far it lies from the first, and 0 where there is no such aisle
abbrev pub offset_words : List ℕ → List ℕ
offset_words spacings = offsets_from 0 spacings ++ replicate (most_aisles - (length spacings + 1)) 0

-- so many words keep the lengths between neighbouring aisles, and the others are 0
pub record KeepsOffsets (count : ℕ) (words : List ℕ) : Type 0 where
  pub words_are : words ≡ offset_words (differences (take count words))
  pub count_is : count ≡ length (differences (take count words)) + 1
  pub few : count ≤ most_aisles
  pub ranges : All (IsUpTo greatest_length) (differences (take count words))
