pub mod Answering
pub mod Machine
pub mod Outcome
pub mod Prepared
