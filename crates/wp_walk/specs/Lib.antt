pub mod ReachedPlaces
pub mod WalkedParts
