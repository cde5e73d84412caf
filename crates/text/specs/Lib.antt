pub mod Patterns
pub mod Words
pub mod Decimals
pub mod Rows
