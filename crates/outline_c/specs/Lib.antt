pub mod Faults
pub mod Grounds
pub mod Kept
pub mod Exports
pub mod Sheets
