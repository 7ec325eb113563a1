pub mod Texts
pub mod Runs
pub mod Ends
pub mod Stops
pub mod Inputs
pub mod Promise
