mod Rotations
pub mod Changes
