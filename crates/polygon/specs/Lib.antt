pub mod Transits
pub mod Polygons
pub mod Traverses
pub mod Laws
pub mod Examples
