pub mod Sent
pub mod Untaken
