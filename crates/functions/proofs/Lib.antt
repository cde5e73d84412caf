pub mod Places
pub mod Powers
pub mod AnnexF
pub mod Reciprocals
