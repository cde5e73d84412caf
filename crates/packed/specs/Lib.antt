pub mod Bits
pub mod Numbers
pub mod Faults
pub mod Sheets
pub mod Packing
pub mod Examples
