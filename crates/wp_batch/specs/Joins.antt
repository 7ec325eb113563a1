-- Two batches of a list that may be joined, and batchings in which no two gain by that.
use Rattle.std.specs.Prelude.{◌≡◌, ℕ, ◌+◌, ◌-◌, ◌^◌, ◌<◌, ◌≤◌, List, ◌++◌, All, length, min}
use Rattle.wp_pairs.specs.Carts.{FitsAnyCart}
use Rattle.wp_batch.specs.declared.merge.Join.{Join}
use Rattle.wp_lengths.specs.Batchings.{IsCost, batch_at}
use Rattle.wp_lengths.specs.Lengths.{IsLengthOf}
use Rattle.wp_lengths.specs.Waves.{WavePicks}

-- two batches fit into one: together they have no more orders than the capacity, which load no more than a cart holds
pub record FitInOne (wave : WavePicks) (capacity : ℕ) (left right : List ℕ) : Type 0 where
  pub few : length left + length right ≤ capacity
  pub light : FitsAnyCart wave.cart (left ++ right)

-- two batches that fit into one don't cost less as one
abbrev pub NoGain : WavePicks → ℕ → List ℕ → List ℕ → Type 0
NoGain wave capacity left right =
    FitInOne wave capacity left right → (one other both : ℕ) → IsLengthOf wave left one → IsLengthOf wave right other
    → IsLengthOf wave (left ++ right) both → one + other ≤ both

-- no two batches gain by joining
abbrev pub NoJoinGains : WavePicks → ℕ → List (List ℕ) → Type 0
NoJoinGains wave capacity batches =
    (left right : ℕ) → left < right → right < length batches
    → NoGain wave capacity (batch_at batches left) (batch_at batches right)

-- two batches cost so much more than one of the orders of both
pub record JoinSaves (wave : WavePicks) (left right : List ℕ) (saving : ℕ) : Type 0 where
  pub one : ℕ
  pub other : ℕ
  pub both : ℕ
  pub of_left : IsLengthOf wave left one
  pub of_right : IsLengthOf wave right other
  pub of_both : IsLengthOf wave (left ++ right) both
  pub sum : one + other ≡ both + saving

-- two batches that fit into one cost at most so much more than one of the orders of both
abbrev pub SavesAtMost : WavePicks → ℕ → List ℕ → List ℕ → ℕ → Type 0
SavesAtMost wave capacity left right most =
    FitInOne wave capacity left right → (one other both : ℕ) → IsLengthOf wave left one → IsLengthOf wave right other
    → IsLengthOf wave (left ++ right) both → one + other ≤ both + most

-- whatever batches cost after a change, they cost no less before it
abbrev pub CostNoMore : WavePicks → List (List ℕ) → List (List ℕ) → Type 0
CostNoMore wave before after = (less : ℕ) → IsCost wave after less → (cost : ℕ) × IsCost wave before cost
    × (less ≤ cost)

-- batches cost less after a change than before it
abbrev pub CostLess : WavePicks → List (List ℕ) → List (List ℕ) → Type 0
CostLess wave before after = (cost less : ℕ) → IsCost wave before cost → IsCost wave after less → less < cost

-- what batches cost, as far as a word of 64 bits goes
pub record TellsCost (wave : WavePicks) (batches : List (List ℕ)) (told : ℕ) : Type 0 where
  pub cost : ℕ
  pub is : IsCost wave batches cost
  pub told_is : told ≡ min cost (2 ^ 64 - 1)

-- two batches of the list that fit into one and cost less as one
pub record CanJoin (wave : WavePicks) (capacity : ℕ) (batches : List (List ℕ)) (join : Join) : Type 0 where
  pub order : join.left < join.right
  pub within : join.right < length batches
  pub fits : FitInOne wave capacity (batch_at batches join.left) (batch_at batches join.right)
  pub saves : JoinSaves wave (batch_at batches join.left) (batch_at batches join.right) join.saving

-- all orders of all batches are orders of the wave
abbrev pub AreKnown : WavePicks → List (List ℕ) → Type 0
AreKnown wave batches = (place : ℕ) → place < length batches
    → All (λ order. order < length wave.orders) (batch_at batches place)

-- a join with a saving is possible, and no batch before this place saves more by joining that one
pub record IsBestWith (wave : WavePicks) (capacity : ℕ) (batches : List (List ℕ)) (place right : ℕ)
    (best : Join) : Type 0 where
  pub can : 0 < best.saving → CanJoin wave capacity batches best
  pub most : (left : ℕ) → left < place → SavesAtMost wave capacity (batch_at batches left)
      (batch_at batches right) best.saving

-- a join with a saving is possible, and no two batches before this place save more by joining
pub record IsBestBelow (wave : WavePicks) (capacity : ℕ) (batches : List (List ℕ)) (place : ℕ)
    (best : Join) : Type 0 where
  pub can : 0 < best.saving → CanJoin wave capacity batches best
  pub most : (left right : ℕ) → left < right → right < place
      → SavesAtMost wave capacity (batch_at batches left) (batch_at batches right) best.saving
