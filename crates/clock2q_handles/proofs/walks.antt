-- Walks from a home's slot on: how far they go, what they meet, and where they end.
pub mod Finding
pub mod Yields
pub mod Cursors
pub mod Positions
pub mod Lookups
pub mod Runs
