pub mod Keeping
pub mod Recalling
