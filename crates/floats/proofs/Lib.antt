pub mod Choices
pub mod WholeRoots
pub mod NearestRoots
pub mod Roots
pub mod AcceptedRoots
pub mod Folds
pub mod Rests
pub mod Remainders
pub mod ErrorFree
pub mod Ranges
mod Controls
