pub mod Lines
pub mod Trips
pub mod OffGaps
pub mod Served
pub mod RuleTours
pub mod Adding
