mod Congruence
mod Reducing
mod Steps
pub mod Law
pub mod Examples
