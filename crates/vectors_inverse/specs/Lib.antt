pub mod Rows
pub mod Lists
pub mod Outlines
pub mod Judges
