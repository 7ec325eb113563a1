pub mod Sums
pub mod CallLists
pub mod Steps
pub mod Resting
pub mod Dealing
pub mod Calling
pub mod Closing
pub mod NewPasses
