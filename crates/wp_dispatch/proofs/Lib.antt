pub mod RowArticles
pub mod FreeUnits
pub mod DeskRecords
pub mod WavesRead
pub mod OneDesk
pub mod Printed
