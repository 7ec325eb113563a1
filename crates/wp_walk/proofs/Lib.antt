pub mod Places
pub mod TurnPlaces
pub mod PathPoints
pub mod Walks
