pub mod DualSums
pub mod Raises
pub mod Rows
pub mod ShareLists
pub mod Owns
pub mod OrderTotals
pub mod ClassBatchings
