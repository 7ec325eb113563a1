-- Rounds of a search for a narrow bracket: the pools to which they lead, and how they end.
use Rattle.std.specs.Int.{w128}
use Rattle.std.specs.Prelude.{◌≡◌, ℕ, ◌<◌, ◌^◌, ◌⊎◌, FitsSigned, List, All, ℤ, pos, ◌*ℤ◌, ◌<ℤ◌}
use Rattle.wp_pairs.specs.Permitted.{IsPermitted, Pairing}
use Rattle.wp_lengths.specs.Waves.{WavePicks}
use Rattle.wp_master.specs.Faults.{IsTooWide}
use Rattle.wp_master.specs.Pivots.{PivotRun, Table}
use Rattle.wp_master.specs.Pools.{ColumnPool, IsFirstUncovered}
use Rattle.wp_master.specs.declared.column.Column.{Column}
use Rattle.wp_master.specs.declared.fault.MasterFault.{MasterFault}
use Rattle.wp_master.specs.declared.fault.MasterFault.TheVariants as fault
use Rattle.wp_price.specs.Slacks.{IsSlack}
use Rattle.wp_lp.specs.Roots.{AreScaledWide, IsHalt}
use Rattle.wp_lp.specs.Runs.{IsPermittedPool, PricedRun, batches_of, most_turns}
use Rattle.wp_lp.specs.declared.halt.Halt.{Halt}
use Rattle.wp_lp.specs.declared.halt.Halt.TheVariants as halt
use Rattle.wp_lp.specs.declared.root.RootState.TheVariants.{Narrow, Rounds, Turns, Wide}

-- a pool of permitted batches of a wave with their shortest lengths, all of them below 2 ^ 28
pub record IsShortPool (wave : WavePicks) (pairing : Pairing) (pool : ColumnPool) : Type 0 where
  pub is_pool : IsPermittedPool wave pairing pool
  pub short : All (λ (column : Column). column.length < 2 ^ 28) pool.columns

-- the pool of the last list of a priced run in which so many batches were appended
pub record IsRunPool (wave : WavePicks) (pairing : Pairing) (made : ℕ) (pool : ColumnPool) : Type 0 where
  pub run : PricedRun wave pairing made (batches_of pool)
  pub is_pool : IsShortPool wave pairing pool

-- a permitted batch of negative slack
pub record IsNegative (wave : WavePicks) (pairing : Pairing) (sixtieths batch : List ℕ) : Type 0 where
  pub permitted : IsPermitted pairing batch
  pub slack : ℤ
  pub is_slack : IsSlack wave sixtieths batch slack
  pub negative : slack <ℤ pos 0

-- what ends the solving of a pool
abbrev pub IsHaltOf : MasterFault → Halt → Type 0
IsHaltOf (fault.Turns made) answer = answer ≡ halt.Ended (Turns made)
IsHaltOf (fault.Wide left right) answer = answer ≡ halt.Ended (Wide left right)
IsHaltOf fault.Memory answer = answer ≡ halt.Memory
IsHaltOf (fault.NoCover order) answer = answer ≡ halt.NoCover order

-- why a pool has no solution that can be rounded
abbrev pub IsPoolHalt : ColumnPool → Halt → Type 0
IsPoolHalt pool halt.Memory = Unit {0}
IsPoolHalt pool (halt.NoCover order) = IsFirstUncovered pool order
IsPoolHalt pool (halt.Ended Narrow) = ⊥
IsPoolHalt pool (halt.Ended (Rounds made)) = ⊥
IsPoolHalt pool (halt.Ended (Turns made)) = (made ≡ most_turns) × ((table : Table) × PivotRun pool made table)
IsPoolHalt pool (halt.Ended (Wide left right)) =
    (IsTooWide pool most_turns left right ⊎ AreScaledWide pool left right) × (FitsSigned w128 (left *ℤ right) → ⊥)

-- a denominator whose product with 2 ^ 42 leaves 128 bits ends the search
abbrev pub IsUnscalable : ℤ → Halt → Type 0
IsUnscalable denominator answer = (answer ≡ halt.Ended (Wide denominator (pos (2 ^ 42))))
    × (FitsSigned w128 (denominator *ℤ pos (2 ^ 42)) → ⊥)

-- why a search of so many rounds ended: never for want of a batch with some order
abbrev pub IsEnd : WavePicks → Pairing → ℕ → Halt → Type 0
IsEnd wave pairing rounds halt.Memory = Unit {0}
IsEnd wave pairing rounds (halt.NoCover order) = ⊥
IsEnd wave pairing rounds (halt.Ended state) = IsHalt wave pairing rounds state
