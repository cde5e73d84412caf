pub mod Sets
pub mod Coefficients
pub mod Circle
pub mod Arcs
pub mod AnnexF
pub mod Lengths
pub mod CubeRoot
pub mod Series
