pub mod Stepping
pub mod Askings
pub mod Outcomes
pub mod Sent
pub mod Outgoing
