-- Entries put in and removed: what one write results in, what moving the rest of a run results in, and what that does to the lists.
pub mod Cells
pub mod Moves
pub mod Shifts
pub mod Changes
pub mod Removals
pub mod Steps
pub mod Carrying
pub mod Taking
pub mod Searching
pub mod Wrapping
pub mod Insertions
pub mod Replacement
pub mod Calls
