pub mod Lists
pub mod Children
pub mod Reaches
pub mod Later
pub mod Extensions
pub mod Meeting
pub mod Courses
