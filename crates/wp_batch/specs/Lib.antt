pub mod Joins
pub mod Savings
pub mod Splits
pub mod Walks
pub mod Changes
pub mod LastPlaces
