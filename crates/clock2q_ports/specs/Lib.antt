pub mod Ports
pub mod Lines
pub mod Transfer
