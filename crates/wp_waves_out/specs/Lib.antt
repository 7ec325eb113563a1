pub mod Starts
pub mod SentOut
pub mod NamedWaves
