pub mod Refusals
pub mod Wholes
pub mod Plates
