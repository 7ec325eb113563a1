pub mod FreeUnits
pub mod DeskText
