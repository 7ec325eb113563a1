pub mod CostSums
pub mod Turns
pub mod PathLengths
pub mod OwnCounts
pub mod WholeBatchings
pub mod OptimalJoins
pub mod Searches
pub mod GoodPlans
