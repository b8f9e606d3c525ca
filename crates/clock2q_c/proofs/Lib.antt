pub mod Words
pub mod TokenHash
pub mod Holders
