pub mod Tables
pub mod Least
pub mod Choices
pub mod Onward
pub mod Steps
pub mod Paths
pub mod Parts
pub mod Rounds
