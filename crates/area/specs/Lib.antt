pub mod Reduction
pub mod AreaLaw
pub mod Examples
