pub mod Pages
pub mod Desks
