pub mod Waves
pub mod Lengths
pub mod Marks
pub mod Batchings
pub mod KeptLengths
pub mod Duals
pub mod Visits
pub mod Reaches
