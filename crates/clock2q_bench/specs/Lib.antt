pub mod Hashing
pub mod Indices
