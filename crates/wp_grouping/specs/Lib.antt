pub mod Gathering
pub mod Shape
