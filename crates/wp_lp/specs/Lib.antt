pub mod Covers
pub mod Runs
pub mod Roots
pub mod Parts
pub mod Rounds
pub mod Knowns
