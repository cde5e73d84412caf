pub mod Rounded
pub mod Values
pub mod Plain
pub mod Congruent
