pub mod GoingOn
pub mod Parts
pub mod Shared
pub mod Work
pub mod Days
