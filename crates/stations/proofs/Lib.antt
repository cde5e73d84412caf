pub mod Redrawing
pub mod Noting
pub mod Costing
