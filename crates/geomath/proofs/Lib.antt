pub mod Turns
pub mod Normalized
pub mod Ranges
pub mod Difference
pub mod Mirror
pub mod OffEquator
pub mod Latitudes
