pub mod Devices
pub mod Faults
pub mod InMemory
pub mod Outside
pub mod Sections
pub mod Writing
