pub mod Commands
pub mod Matching
pub mod Passing
pub mod Ranges
