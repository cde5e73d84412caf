pub mod Evaluations
pub mod MirrorLaw
