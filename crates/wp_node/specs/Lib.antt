pub mod Prices
pub mod Raises
pub mod Finds
pub mod Weights
pub mod Owns
