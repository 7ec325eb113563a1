-- Brackets of the linear bound, and the causes of their states.
use Rattle.std.specs.Int.{w128}
use Rattle.std.specs.Prelude.{◌≡◌, ℕ, ◌^◌, ◌<◌, ◌⊎◌, FitsSigned, List, length, ℤ, pos, ◌-ℤ◌, ◌*ℤ◌, ◌<ℤ◌, ◌≤ℤ◌}
use Rattle.wp_pairs.specs.Permitted.{Pairing}
use Rattle.wp_lengths.specs.Waves.{WavePicks}
use Rattle.wp_master.specs.Faults.{IsTooWide}
use Rattle.wp_master.specs.Pivots.{PivotRun, Table, entry_of, last_row, places}
use Rattle.wp_master.specs.Pools.{ColumnPool}
use Rattle.wp_lp.specs.Covers.{AreFeasibleOver, IsFractionalCover, IsWeightedLength, sum_of_duals}
use Rattle.wp_lp.specs.Runs.{IsPermittedPool, PricedRun, most_turns}
use Rattle.wp_lp.specs.declared.root.Root.{Root}
use Rattle.wp_lp.specs.declared.root.RootState.{RootState}
use Rattle.wp_lp.specs.declared.root.RootState.TheVariants.{Narrow, Rounds, Turns, Wide}

-- for so many orders a low and a high number over a denominator are apart by less than a sixtieth for each order
abbrev pub IsNarrow : ℕ → ℤ → ℤ → ℤ → Type 0
IsNarrow orders low high denominator = (pos 60 *ℤ (high -ℤ low)) <ℤ (pos orders *ℤ denominator)

-- the denominator of a table, or an entry of its last row
abbrev pub IsOfLastRow : ColumnPool → Table → ℤ → Type 0
IsOfLastRow pool table value = (value ≡ table.denominator)
    ⊎ ((place : ℕ) × (place < places pool) × (value ≡ entry_of table (last_row pool) place))

-- the denominator or an entry of the last row of a table to which a pivot run leads, and a number of at most 2 ^ 42
pub record AreScaledWide (pool : ColumnPool) (left right : ℤ) : Type 0 where
  pub made : ℕ
  pub table : Table
  pub run : PivotRun pool made table
  pub left_is : IsOfLastRow pool table left
  pub least : pos 0 ≤ℤ right
  pub most : right ≤ℤ pos (2 ^ 42)

-- two numbers whose product leaves 128 bits, for a pool of a wave's permitted batches: as `solve` tells them, or as one
-- of its numbers is scaled
pub record AreTooWide (wave : WavePicks) (pairing : Pairing) (left right : ℤ) : Type 0 where
  pub pool : ColumnPool
  pub is_pool : IsPermittedPool wave pairing pool
  pub kind : IsTooWide pool most_turns left right ⊎ AreScaledWide pool left right
  pub leaves : FitsSigned w128 (left *ℤ right) → ⊥

-- a pool of a wave's permitted batches has a pivot run with so many pivots
abbrev pub HasPivots : WavePicks → Pairing → ℕ → Type 0
HasPivots wave pairing made = (pool : ColumnPool) × (table : Table) × IsPermittedPool wave pairing pool
    × PivotRun pool made table

-- a priced run in which so many batches were appended
abbrev pub HasRun : WavePicks → Pairing → ℕ → Type 0
HasRun wave pairing made = (batches : List (List ℕ)) × PricedRun wave pairing made batches

-- why a search of so many rounds ended without a narrow bracket
abbrev pub IsHalt : WavePicks → Pairing → ℕ → RootState → Type 0
IsHalt wave pairing rounds Narrow = ⊥
IsHalt wave pairing rounds (Rounds made) = (made ≡ rounds) × HasRun wave pairing made
IsHalt wave pairing rounds (Turns made) = (made ≡ most_turns) × HasPivots wave pairing made
IsHalt wave pairing rounds (Wide left right) = AreTooWide wave pairing left right

-- the cause of the state of a bracket, for so many rounds
abbrev pub IsCauseOf : WavePicks → Pairing → ℕ → ℤ → ℤ → ℤ → RootState → Type 0
IsCauseOf wave pairing rounds low high denominator Narrow = IsNarrow (length wave.orders) low high denominator
IsCauseOf wave pairing rounds low high denominator (Rounds made) = (made ≡ rounds) × HasRun wave pairing made
IsCauseOf wave pairing rounds low high denominator (Turns made) = (made ≡ most_turns) × HasPivots wave pairing made
IsCauseOf wave pairing rounds low high denominator (Wide left right) = AreTooWide wave pairing left right

-- a fractional cover and feasible duals over one denominator, with what they come to
pub record IsBracket (wave : WavePicks) (pairing : Pairing) (root : Root) : Type 0 where
  pub cover : IsFractionalCover wave pairing root.batches.items root.weights.items root.denominator
  pub high_is : IsWeightedLength wave root.batches.items root.weights.items root.high
  pub high_not_below : pos 0 ≤ℤ root.high
  pub feasible : AreFeasibleOver wave pairing root.duals.items root.denominator
  pub low_is : root.low ≡ sum_of_duals (length wave.orders) root.duals.items
  pub low_not_below : pos 0 ≤ℤ root.low

-- a bracket whose state has its cause
pub record IsRoot (wave : WavePicks) (pairing : Pairing) (rounds : ℕ) (root : Root) : Type 0 where
  pub bracket : IsBracket wave pairing root
  pub cause : IsCauseOf wave pairing rounds root.low root.high root.denominator root.state
