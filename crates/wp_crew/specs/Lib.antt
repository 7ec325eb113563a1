pub mod Crews
pub mod Turns
pub mod Numbers
