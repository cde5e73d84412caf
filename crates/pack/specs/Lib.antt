pub mod Options
pub mod Edits
pub mod Sheets
