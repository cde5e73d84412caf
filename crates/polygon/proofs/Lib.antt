pub mod Closing
pub mod Feeding
pub mod Laws
pub mod Examples
