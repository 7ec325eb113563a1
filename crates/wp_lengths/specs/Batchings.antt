-- Batchings of a wave (Gademann and van de Velde, 2005), and what they cost.
use Rattle.std.specs.Prelude.{◌≡◌, ℕ, ◌+◌, ◌<◌, List, [], ◌∷◌, Contains, length, slice_index, slice_index_or}
use Rattle.wp_pairs.specs.Permitted.{IsPermitted, Pairing}
use Rattle.wp_lengths.specs.Lengths.{IsLengthOf}
use Rattle.wp_lengths.specs.Waves.{WavePicks}

-- the orders of a wave, its cart and such a capacity, and no pair
abbrev pub no_pairs : WavePicks → ℕ → Pairing
no_pairs wave capacity = record { orders = length wave.orders; capacity = capacity; cart = wave.cart; pairs = [] }

-- the batch at a place
abbrev pub batch_at : List (List ℕ) → ℕ → List ℕ
batch_at batches place = slice_index_or batches place []

-- batches that are permitted where there is no pair, such that each order of the wave is in one of them and in no other
pub record IsBatching (wave : WavePicks) (capacity : ℕ) (batches : List (List ℕ)) : Type 0 where
  pub each : (place : ℕ) → place < length batches → IsPermitted (no_pairs wave capacity) (batch_at batches place)
  pub covered : (order : ℕ) → order < length wave.orders
      → (place : ℕ) × (place < length batches) × Contains (batch_at batches place) order
  pub once : (order left right : ℕ) → left < length batches → right < length batches
      → Contains (batch_at batches left) order
      → Contains (batch_at batches right) order → left ≡ right

-- each batch's least order is below that of each later batch
abbrev pub IsListedByLeast : List (List ℕ) → Type 0
IsListedByLeast batches =
    (left right : ℕ) → left < right → right < length batches
    → slice_index (batch_at batches left) 0 < slice_index (batch_at batches right) 0

-- the lengths of the batches sum to this
abbrev pub IsCost : WavePicks → List (List ℕ) → ℕ → Type 0
IsCost wave [] total = total ≡ 0
IsCost wave (batch ∷ batches) total =
    (first : ℕ) × (rest : ℕ) × (IsLengthOf wave batch first) × (IsCost wave batches rest) × (total ≡ first + rest)
