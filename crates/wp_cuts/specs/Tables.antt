-- A table of cuts: for each of 64 orders its part in each cut.
use Rattle.std.specs.Prelude.{◌≡◌, ℕ, ◌+◌, ◌/◌, ◌<◌, ◌≤◌, List, [], length, slice_index, slice_index_or, sum_by}
use Rattle.wp_cuts.specs.Cuts.{CutParts, cut_part, most_cuts}

-- the parts of an order: at the place of each cut its part there
pub record IsRow (cuts : List CutParts) (order : ℕ) (row : List ℕ) : Type 0 where
  pub whole : length row ≡ 64
  pub small : (at : ℕ) → slice_index row at ≤ 7
  pub parts : (at : ℕ) (cut : CutParts) → at < length cuts
      → slice_index row at ≡ cut_part (slice_index_or cuts at cut) order

-- a row for each of 64 orders
pub record IsTable (cuts : List CutParts) (rows : List (List ℕ)) : Type 0 where
  pub few : length cuts ≤ most_cuts
  pub whole : length rows ≡ 64
  pub each : (order : ℕ) → order < 64 → IsRow cuts order (slice_index_or rows order [])

-- to each number of a list that of another list is added
pub record IsEachSum (old row new : List ℕ) : Type 0 where
  pub whole : length new ≡ 64
  pub each : (at : ℕ) → at < 64 → slice_index new at ≡ slice_index old at + slice_index row at

-- at the place of each cut what the orders of a batch have in parts of it
pub record AreParts (cuts : List CutParts) (batch parts : List ℕ) : Type 0 where
  pub each : (at : ℕ) (cut : CutParts) → at < length cuts
      → slice_index parts at ≡ sum_by (cut_part (slice_index_or cuts at cut)) batch
  pub small : (at : ℕ) → slice_index parts at ≤ 448

-- the inverse of a divisor: what is multiplied by it and divided by 65,536 is divided by the divisor
pub record IsInverse (divisor inverse : ℕ) : Type 0 where
  pub low : 2 ≤ divisor
  pub high : divisor ≤ 8
  pub small : inverse ≤ 32768
  pub is : inverse ≡ 65535 / divisor + 1

-- the inverse of the divisor of each cut
pub record AreInverses (cuts : List CutParts) (inverses : List ℕ) : Type 0 where
  pub whole : length inverses ≡ length cuts
  pub each : (at : ℕ) (cut : CutParts) → at < length cuts
      → IsInverse (slice_index_or cuts at cut).divisor (slice_index inverses at)
