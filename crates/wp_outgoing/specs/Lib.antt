pub mod Names
pub mod Sending
pub mod Room
pub mod Lines
pub mod Leaving
pub mod WavesOut
