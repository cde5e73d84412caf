mod Digits
pub mod Cuts
mod Readings
