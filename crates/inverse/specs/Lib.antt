pub mod Wanted
pub mod Tasks
pub mod Canonical
pub mod Paths
pub mod AreaTerm
pub mod Inverse
pub mod MirrorLaw
