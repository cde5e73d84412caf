pub mod Constants
pub mod Capabilities
pub mod Tables
pub mod Ellipsoids
pub mod Expansions
pub mod Arcs
pub mod ReducedLatitudes
pub mod Lengths
