pub mod Room
pub mod Chains
pub mod Kept
pub mod FreeCounts
pub mod ArticleRows
pub mod Calls
