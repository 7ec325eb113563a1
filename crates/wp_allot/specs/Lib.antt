pub mod Wants
pub mod Cover
pub mod UntouchedStock
pub mod DealtUnits
pub mod Gathered
