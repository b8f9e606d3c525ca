-- Candidates offered to a closure.
pub mod Offering
pub mod Accepting
pub mod OfferedAll
