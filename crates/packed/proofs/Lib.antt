mod Examples
pub mod Exits
mod Fields
pub mod Numbers
mod Reading
mod RoundTrip
mod Writing
