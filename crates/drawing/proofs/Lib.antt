pub mod Mapped
pub mod Drawn
pub mod ByTheBook
pub mod Sheets
pub mod Heads
pub mod Standing
pub mod Listed
