-- Parts of a cover: batches with their lengths and weights, and what comes of them where orders are taken out.
use Rattle.std.specs.Prelude.{◌≡◌, ◌≢◌, ◌⊎◌, ℕ, ◌+◌, ◌*◌, ◌≤◌, ◌<◌, ◌^◌, ◌*ℤ◌, ◌≤ℤ◌, if◌then◌else◌, List, All, length}
use Rattle.std.specs.Prelude.{map, sum, sum_by, ℤ, pos}
use Rattle.wp_pairs.specs.Permitted.{IsPermitted, Pairing}
use Rattle.wp_lengths.specs.Lengths.{IsLengthOf}
use Rattle.wp_lengths.specs.Waves.{WavePicks}
use Rattle.wp_master.specs.Pairs.{number_at}
use Rattle.wp_lp.specs.Covers.{has}
use Rattle.wp_lp.specs.declared.part.WeightedBatch.{WeightedBatch}
use Rattle.wp_lp.specs.declared.root.Root.{Root}
use Rattle.wp_lp.specs.declared.root.RootState.{RootState}

-- the weight of a part where it has an order, else 0
abbrev pub weight_for : ℕ → WeightedBatch → ℕ
weight_for order part = if has part.batch order then part.weight else 0

-- the weight of a part times its length
abbrev pub weighed : WeightedBatch → ℕ
weighed part = part.weight * part.length

-- the sum of the weights of the parts that have an order
abbrev pub cover_of : List WeightedBatch → ℕ → ℕ
cover_of parts order = sum_by (weight_for order) parts

-- the sum of the weights of parts, each times its length
abbrev pub cost_of : List WeightedBatch → ℕ
cost_of parts = sum_by weighed parts

-- a permitted batch with its shortest length
pub record IsWeightedBatch (wave : WavePicks) (pairing : Pairing) (part : WeightedBatch) : Type 0 where
  pub permitted : IsPermitted pairing part.batch
  pub long : IsLengthOf wave part.batch part.length

-- a part is put behind others, or left out where it has no weight or no order
pub record IsAdded (part : WeightedBatch) (before after : List WeightedBatch) : Type 0 where
  pub covers : (order : ℕ) → cover_of after order ≡ cover_of before order + weight_for order part
  pub cost : cost_of after ≤ cost_of before + weighed part
  pub each : (wave : WavePicks) (pairing : Pairing) → All (IsWeightedBatch wave pairing) before
      → (0 < length part.batch → IsWeightedBatch wave pairing part) → All (IsWeightedBatch wave pairing) after

-- a part is put behind others without an order, with so much of its weight
pub record IsCut (part : WeightedBatch) (order weight : ℕ) (before after : List WeightedBatch) : Type 0 where
  pub others : (other : ℕ) → other ≢ order
      → cover_of after other ≡ cover_of before other + (if has part.batch other then weight else 0)
  pub own : cover_of after order ≡ cover_of before order
  pub cost : cost_of after ≤ cost_of before + weight * part.length

-- A part is put behind others with an order in it as far as some weight is left for the order, and else without it. The
-- rest of what was left is left then.
pub record IsTrimmed (part : WeightedBatch) (order left rest : ℕ) (before after : List WeightedBatch) : Type 0 where
  pub others : (other : ℕ) → other ≢ order → cover_of after other ≡ cover_of before other + weight_for other part
  pub own : cover_of after order + rest ≡ cover_of before order + left
  pub spent : (rest ≡ 0) ⊎ (cover_of after order ≡ cover_of before order + weight_for order part)
  pub cost : cost_of after ≤ cost_of before + weighed part

-- parts in which an order has a whole weight, and all other orders have what they had
pub record IsTrimmedTo (order whole : ℕ) (before after : List WeightedBatch) : Type 0 where
  pub own : cover_of after order ≡ whole
  pub others : (other : ℕ) → other ≢ order → cover_of after other ≡ cover_of before other
  pub cost : cost_of after ≤ cost_of before

-- each of so many orders has a whole weight
abbrev pub AreExact : ℕ → ℕ → List WeightedBatch → Type 0
AreExact orders whole parts = (order : ℕ) → order < orders → cover_of parts order ≡ whole

-- each of so many orders has a whole weight or more
abbrev pub AreEnough : ℕ → ℕ → List WeightedBatch → Type 0
AreEnough orders whole parts = (order : ℕ) → order < orders → whole ≤ cover_of parts order

-- the bracket of parts and of duals in sixtieths, over 60 times a number
pub record IsRootOf (parts : List WeightedBatch) (sixtieths : List ℕ) (over : ℕ) (state : RootState)
    (root : Root) : Type 0 where
  pub batches : root.batches.items ≡ map (λ (part : WeightedBatch). part.batch) parts
  pub weights : root.weights.items ≡ map (λ (part : WeightedBatch). pos part.weight) parts
  pub duals : root.duals.items ≡ map (λ (dual : ℕ). pos (dual * over)) sixtieths
  pub denominator : root.denominator ≡ pos (60 * over)
  pub low : root.low ≡ pos (sum sixtieths * over)
  pub high : root.high ≡ pos (cost_of parts)
  pub is_state : root.state ≡ state

-- numbers that aren't below 0, nor above 2 ^ 28 times a denominator
abbrev pub AreSmallOver : List ℤ → ℤ → Type 0
AreSmallOver values denominator =
    (place : ℕ) → place < length values → (pos 0 ≤ℤ number_at values place)
    × (number_at values place ≤ℤ (pos (2 ^ 28) *ℤ denominator))

-- sixty times a weight, but no more than sixty times a denominator
pub record IsCapped (weight denominator : ℤ) (capped : ℕ) : Type 0 where
  pub least : (pos capped ≡ pos 60 *ℤ weight) ⊎ (pos capped ≡ pos 60 *ℤ denominator)
  pub most : pos capped ≤ℤ (pos 60 *ℤ weight)
