pub mod Batches
pub mod Words
pub mod Permitted
pub mod Kept
pub mod Carts
