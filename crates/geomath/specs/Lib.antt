pub mod Angles
pub mod Exact
