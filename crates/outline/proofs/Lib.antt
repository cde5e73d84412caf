mod Summing
mod Leaving
pub mod Replaying
pub mod WholeRule
mod Examples
