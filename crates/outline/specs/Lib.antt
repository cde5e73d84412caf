pub mod Sums
pub mod WholeRule
pub mod Examples
pub mod Resuming
