pub mod Shapes
pub mod Answers
