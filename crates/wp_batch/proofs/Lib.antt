pub mod Joining
pub mod Singles
pub mod Gains
pub mod Splits
pub mod Replacing
pub mod Listings
pub mod Costs
