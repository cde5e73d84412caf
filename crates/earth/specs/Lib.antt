pub mod Wgs84
pub mod Numbers
pub mod Grounds
