pub mod Lines
pub mod Sizes
pub mod Records
pub mod Texts
pub mod Accepted
