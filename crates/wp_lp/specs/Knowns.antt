-- What is known of a wave before its bracket is looked for, and brackets that are no wider.
use Rattle.std.specs.Prelude.{◌≡◌, ◌⊎◌, ℕ, ◌+◌, ◌*◌, ◌<◌, ◌≤◌, ◌^◌, List, [], ◌∷◌, All, Contains, length, slice_index}
use Rattle.std.specs.Prelude.{sum, pos, ◌*ℤ◌, ◌≤ℤ◌}
use Rattle.wp_batch.specs.Joins.{NoJoinGains}
use Rattle.wp_batch.specs.Savings.{CostNoMoreThanSavings}
use Rattle.wp_lengths.specs.Batchings.{IsBatching, IsCost}
use Rattle.wp_lengths.specs.Duals.{AreFeasible, AreShares, duals_of}
use Rattle.wp_lengths.specs.Lengths.{IsLengthOf}
use Rattle.wp_lengths.specs.Waves.{WavePicks}
use Rattle.wp_master.specs.Pools.{AreCovered, ColumnPool}
use Rattle.wp_pairs.specs.Permitted.{IsPermitted, Pairing}
use Rattle.wp_lp.specs.Parts.{AreExact, IsWeightedBatch, IsRootOf, cost_of}
use Rattle.wp_lp.specs.Roots.{IsBracket, IsNarrow, IsRoot}
use Rattle.wp_lp.specs.Rounds.{IsShortPool}
use Rattle.wp_lp.specs.Runs.{IsBatchingUnder}
use Rattle.wp_lp.specs.declared.part.WeightedBatch.{WeightedBatch}
use Rattle.wp_lp.specs.declared.root.Root.{Root}
use Rattle.wp_lp.specs.declared.root.RootState.{RootState}
use Rattle.wp_lp.specs.declared.root.RootState.TheVariants.{Narrow}

-- feasible duals in sixtieths, one for each order and each below 2 ^ 34
pub record AreSound (wave : WavePicks) (pairing : Pairing) (duals : List ℕ) : Type 0 where
  pub feasible : AreFeasible wave pairing duals
  pub count : length duals ≡ length wave.orders
  pub small : All (λ dual. dual < 2 ^ 34) duals

-- a batching with its cost, and sound duals
pub record IsKnown (wave : WavePicks) (pairing : Pairing) (batches : List (List ℕ)) (cost : ℕ)
    (duals : List ℕ) : Type 0 where
  pub batching : IsBatchingUnder pairing batches
  pub priced : IsCost wave batches cost
  pub sound : AreSound wave pairing duals

-- the low side of a bracket over its denominator is no lower than so many sixtieths
abbrev pub Reaches : ℕ → Root → Type 0
Reaches sixtieths root = (pos sixtieths *ℤ root.denominator) ≤ℤ (pos 60 *ℤ root.low)

-- the high side of a bracket over its denominator is no higher than a cost
abbrev pub IsWithin : ℕ → Root → Type 0
IsWithin cost root = root.high ≤ℤ (pos cost *ℤ root.denominator)

-- a bracket is narrow, or else in this state
abbrev pub IsTold : ℕ → RootState → Root → Type 0
IsTold orders state root = ((root.state ≡ Narrow) × IsNarrow orders root.low root.high root.denominator)
    ⊎ (root.state ≡ state)

-- a bracket that is narrow or else in this state, and no wider than a cost and so many sixtieths
pub record IsBracketFrom (wave : WavePicks) (pairing : Pairing) (cost sixtieths : ℕ) (state : RootState)
    (root : Root) : Type 0 where
  pub bracket : IsBracket wave pairing root
  pub reaches : Reaches sixtieths root
  pub within : IsWithin cost root
  pub told : IsTold (length wave.orders) state root

-- a narrow bracket, no wider than a cost and so many sixtieths
pub record IsNarrowFrom (wave : WavePicks) (pairing : Pairing) (cost sixtieths : ℕ) (root : Root) : Type 0 where
  pub bracket : IsBracket wave pairing root
  pub reaches : Reaches sixtieths root
  pub within : IsWithin cost root
  pub is_state : root.state ≡ Narrow
  pub narrow : IsNarrow (length wave.orders) root.low root.high root.denominator

-- a bracket whose state has its cause, no wider than a cost and so many sixtieths
pub record IsRootFrom (wave : WavePicks) (pairing : Pairing) (rounds cost sixtieths : ℕ) (root : Root) : Type 0 where
  pub is : IsRoot wave pairing rounds root
  pub reaches : Reaches sixtieths root
  pub within : IsWithin cost root

-- the low side of a bracket is no lower than the share duals
abbrev pub ReachesShares : WavePicks → ℕ → Root → Type 0
ReachesShares wave capacity root = (shares : List ℕ) × AreShares wave capacity shares × Reaches (sum shares) root

-- the high side is no higher than the cost of a batching that no join improves, which is no dearer than one by savings
abbrev pub IsWithinStart : WavePicks → ℕ → Root → Type 0
IsWithinStart wave capacity root = (batches : List (List ℕ)) × (cost : ℕ) × IsBatching wave capacity batches
    × NoJoinGains wave capacity batches
    × CostNoMoreThanSavings wave capacity batches × IsCost wave batches cost × IsWithin cost root

-- Parts of an exact cover over sixty times a number, which come to no more than a cost.
pub record IsCoverWithin (wave : WavePicks) (pairing : Pairing) (cost : ℕ) (parts : List WeightedBatch)
    (over : ℕ) : Type 0 where
  pub some : 1 ≤ over
  pub small : over < 2 ^ 86
  pub exact : AreExact (length wave.orders) (60 * over) parts
  pub each : All (IsWeightedBatch wave pairing) parts
  pub fits : cost_of parts < 2 ^ 127
  pub within : cost_of parts ≤ 60 * over * cost

-- the sides of a bracket of parts and of duals in sixtieths, over sixty times a number, are apart by less than a
-- sixtieth for each dual
abbrev pub AreNear : List WeightedBatch → List ℕ → ℕ → Type 0
AreNear parts sixtieths over = cost_of parts < sum sixtieths * over + length sixtieths * over

-- the state of such a bracket: narrow only where its sides are that near, or else the one that is given
abbrev pub IsToldOf : List WeightedBatch → List ℕ → ℕ → RootState → RootState → Type 0
IsToldOf parts sixtieths over state told = ((told ≡ Narrow) × AreNear parts sixtieths over) ⊎ (told ≡ state)

-- the bracket of parts and of duals in sixtieths, in that state
pub record IsToldRoot (parts : List WeightedBatch) (sixtieths : List ℕ) (over : ℕ) (state : RootState)
    (root : Root) : Type 0 where
  pub told : RootState
  pub is : IsRootOf parts sixtieths over told root
  pub is_told : IsToldOf parts sixtieths over state told

-- no permitted batch with an order has more in duals than sixty times its length and so much
abbrev pub IsLack : WavePicks → Pairing → List ℕ → ℕ → ℕ → Type 0
IsLack wave pairing sixtieths order lack
    = (batch : List ℕ) (total : ℕ) → IsPermitted pairing batch → Contains batch order → IsLengthOf wave batch total
    → duals_of sixtieths batch ≤ 60 * total + lack

-- The dual of an order, scaled down by what its batches lack at most: times its own tour, over that tour and the lack
-- (Farley, 1990).
pub record IsScaled (wave : WavePicks) (pairing : Pairing) (sixtieths : List ℕ) (order scaled : ℕ) : Type 0 where
  pub alone : ℕ
  pub long : IsLengthOf wave (order ∷ []) alone
  pub lack : ℕ
  pub is_lack : IsLack wave pairing sixtieths order lack
  pub less : scaled ≤ slice_index sixtieths order
  pub is : scaled * (60 * alone + lack) ≤ slice_index sixtieths order * (60 * alone)

-- a pool of permitted batches with their shortest lengths that has each order in some batch
pub record IsCoveringPool (wave : WavePicks) (pairing : Pairing) (pool : ColumnPool) : Type 0 where
  pub short : IsShortPool wave pairing pool
  pub covered : AreCovered pool pool.orders
