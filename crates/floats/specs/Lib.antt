pub mod Arithmetic
pub mod Choices
pub mod Sums
pub mod Polynomials
pub mod Roots
pub mod GuessedRoots
pub mod Rests
pub mod Remainders
