pub mod Surfaces
pub mod Strokes
pub mod Sketches
