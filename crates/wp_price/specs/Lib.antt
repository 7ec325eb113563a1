pub mod Slacks
pub mod ShortMarks
pub mod Bests
pub mod Shares
pub mod Searches
pub mod ItemMarks
