pub mod Counts
pub mod Plans
pub mod Branches
pub mod Turns
pub mod Searches
