-- Rebuilding a table: its slot count, the hashes that the closure returns, and its entries put in one after another.
pub mod Hashes
pub mod Held
pub mod HashOfHandle
pub mod Growth
pub mod Growing
pub mod Reserving
pub mod Inserting
pub mod Rebuilds
