pub mod SectionTexts
mod Shelves
pub mod Steps
pub mod Taking
pub mod Telling
