pub mod Numbers
pub mod Vectors
pub mod Degrees
pub mod Eccentric
pub mod Clenshaw
pub mod Astroid
pub mod Tables
pub mod Expansions
