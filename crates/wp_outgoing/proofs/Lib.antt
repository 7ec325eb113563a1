mod HeldStock
mod NameCounts
pub mod WavesOut
mod ServedWaves
mod NumberedNames
mod NamesSoFar
mod LeftOrders
mod Written
mod NamedWaves
pub mod ShortGroups
