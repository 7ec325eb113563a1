pub mod Keys
pub mod LayoutFile
pub mod LayoutText
