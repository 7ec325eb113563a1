pub mod Straight
pub mod Rules
