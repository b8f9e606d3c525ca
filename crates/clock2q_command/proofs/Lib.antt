pub mod Fetching
pub mod InTurn
pub mod Making
pub mod Served
