pub mod Calls
pub mod Weights
pub mod Views
pub mod Rule
pub mod Told
pub mod Promises
pub mod Rests
pub mod Dealt
