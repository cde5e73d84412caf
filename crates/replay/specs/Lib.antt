pub mod Verdicts
pub mod Names
