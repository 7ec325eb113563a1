-- The causes of the faults of solving a pool.
use Rattle.std.specs.Prelude.{ℕ, ◌≡◌, ℤ}
use Rattle.wp_master.specs.Choices.{IsRisingPlace}
use Rattle.wp_master.specs.Pivots.{AreWideEntries, IsWithinTurns, PivotRun, Table}
use Rattle.wp_master.specs.Pools.{AreCovered, ColumnPool, IsFirstUncovered}
use Rattle.wp_master.specs.declared.fault.MasterFault.{MasterFault}
use Rattle.wp_master.specs.declared.fault.MasterFault.TheVariants.{Memory, NoCover, Turns, Wide}

-- so many pivots lead to a table that a further one would make rise
abbrev pub IsUnfinished : ColumnPool → ℕ → Type 0
IsUnfinished pool made = (table : Table) × (place : ℕ) × PivotRun pool made table × IsRisingPlace table place

-- the product of two factors is too wide for a table that at most so many pivots lead to
abbrev pub IsTooWide : ColumnPool → ℕ → ℤ → ℤ → Type 0
IsTooWide pool turns left right = (table : Table) × IsWithinTurns pool turns table × AreWideEntries table left right

-- The cause of a fault, for a number of pivots that are allowed: an order that no column holds; as many pivots were
-- made, and more are needed; two factors are too wide; none is needed where memory is wanting.
abbrev pub IsCause : ColumnPool → ℕ → MasterFault → Type 0
IsCause pool turns (NoCover order) = IsFirstUncovered pool order
IsCause pool turns (Turns made) = (made ≡ turns) × IsUnfinished pool made
IsCause pool turns (Wide left right) = IsTooWide pool turns left right
IsCause pool turns Memory = Unit {0}

-- faults of pivots come only where each order is held
abbrev pub IsOfCovered : ColumnPool → MasterFault → Type 0
IsOfCovered pool (NoCover order) = Unit {0}
IsOfCovered pool (Turns made) = AreCovered pool pool.orders
IsOfCovered pool (Wide left right) = AreCovered pool pool.orders
IsOfCovered pool Memory = Unit {0}
