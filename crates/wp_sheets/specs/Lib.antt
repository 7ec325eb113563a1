pub mod StockLines
pub mod Picks
pub mod Sheets
pub mod Rules
pub mod Crews
pub mod Roots
